-- The command `ask`: how it ends, and what it prints.
use Rattle.std.specs.Prelude.{◌≡◌, ◌≢◌, ℕ, List, [], ◌∷◌, Option}
use Rattle.query_tree.specs.declared.tree.UserInputAst.{UserInputAst}
use Rattle.documents.specs.declared.documents.Doc.{Doc}
use Rattle.index_writing.specs.Writes.{IsWrittenFor}
use Rattle.term_search.specs.Searching.{IsSearched}
use Rattle.term_index.specs.declared.command_line.TheConstants.{MAX_PAGES}
use Rattle.term_index.specs.declared.outcome.Outcome.{Outcome}
use Rattle.term_index.specs.declared.outcome.Outcome.TheVariants.{Done, InFault, OutFault, Memory}
use Rattle.term_index.specs.Outcomes.{IsAmong}
use Rattle.term_index.specs.Source.{AreHeld, Spell, Tells}
use Rattle.term_index.specs.Giving.{Gives}
use Rattle.term_index.specs.Printing.{lines}
use Rattle.term_index.specs.Build.{AreKept, documents_end, build_end}
use Rattle.term_index.specs.Search.{query_end, AreFound}

-- ---- how it ends

abbrev pub then_end : Outcome → Outcome → Outcome
then_end Done next = next
then_end end next = end

-- by the documents, as `build` with all pages, and then by the query
abbrev pub question_end : List ℕ → List Doc → Outcome
question_end query docs = then_end (documents_end MAX_PAGES docs) (query_end query)

unfoldable pub ask_end : List ℕ → List ℕ → Outcome
ask_end query bytes = then_end (build_end MAX_PAGES bytes) (query_end query)

-- It ends by the bytes that the source holds and by the query, but for a fault or want of memory. Valid documents that are small
-- enough are searched.
pub record AskEnds (query : List ℕ) (left : Option (List ℕ)) (outcome : Outcome) : Type 0 where
  pub bytes : List ℕ
  pub held : AreHeld left bytes
  pub ends : IsAmong (ask_end query bytes ∷ InFault ∷ OutFault ∷ Memory ∷ []) outcome
  pub complete : (docs : List Doc) → Spell bytes docs → AreKept MAX_PAGES docs → IsAmong (query_end query ∷ InFault ∷ OutFault ∷ Memory ∷ []) outcome

-- the same, of documents that are at hand
abbrev pub QuestionEnds : List ℕ → List Doc → Outcome → Type 0
QuestionEnds query docs outcome = IsAmong (question_end query docs ∷ OutFault ∷ Memory ∷ []) outcome

-- why there is no index of the documents
pub record AreNotKept (docs : List Doc) (outcome : Outcome) : Type 0 where
  pub not_done : outcome ≢ Done
  pub ends : IsAmong (documents_end MAX_PAGES docs ∷ Memory ∷ []) outcome

-- ---- what it prints

-- The text has a line for each number that the query finds in the documents, which an index can keep.
pub record IsAnswered (query field : List ℕ) (docs : List Doc) (text : List ℕ) : Type 0 where
  pub kept : AreKept MAX_PAGES docs
  pub tree : UserInputAst
  pub searched : IsSearched query tree
  pub ids : List ℕ
  pub found : AreFound query field tree docs ids
  pub text_is : text ≡ lines ids

-- the same, of the documents that the source holds
pub record IsAsked (query field : List ℕ) (left : Option (List ℕ)) (text : List ℕ) : Type 0 where
  pub docs : List Doc
  pub told : Tells left docs
  pub answered : IsAnswered query field docs text

abbrev pub Asks : List ℕ → List ℕ → Outcome → Option (List ℕ) → Option (List ℕ) → Option (List ℕ) → Type 0
Asks query field outcome left old new = Gives (IsAsked query field left) OutFault outcome old new

abbrev pub AnswersQuestion : List ℕ → List ℕ → Outcome → List Doc → Option (List ℕ) → Option (List ℕ) → Type 0
AnswersQuestion query field outcome docs old new = Gives (IsAnswered query field docs) OutFault outcome old new

-- ---- over an index that is at hand

-- It ends so for all documents for which the file is written.
abbrev pub EndsOverFile : List ℕ → List ℕ → Outcome → Type 0
EndsOverFile query file outcome = (docs : List Doc) → IsWrittenFor docs MAX_PAGES file → QuestionEnds query docs outcome

abbrev pub AnswersOverFile : List ℕ → List ℕ → Outcome → List ℕ → Option (List ℕ) → Option (List ℕ) → Type 0
AnswersOverFile query field outcome file old new = (docs : List Doc) → IsWrittenFor docs MAX_PAGES file → AnswersQuestion query field outcome docs old new
