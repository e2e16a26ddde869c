-- The command `search`: how it ends, and what it prints.
use Rattle.std.specs.Prelude.{◌≡◌, ◌<◌, ℕ, List, [], ◌∷◌, true, false, Option, Some, None, IfSome, if◌then◌else◌}
use Rattle.owned_bytes.specs.Outside.{FileState}
use Rattle.query_tree.specs.declared.tree.UserInputAst.{UserInputAst}
use Rattle.query_tree.specs.Answer as grammar
use Rattle.query_tree.specs.Answer.{tree_of}
use Rattle.sstable_format.specs.Version.{version_of, is_known}
use Rattle.sstable_format.specs.Refused.{is_compressed_at}
use Rattle.documents.specs.declared.documents.Doc.{Doc}
use Rattle.printed_queries.specs.Law.{satisfying, AnswersPrinted}
use Rattle.index_file.specs.IndexFile.{IsIndexOf}
use Rattle.index_file.specs.Opening.{CanBeOpened, IsDamaged}
use Rattle.term_search.specs.declared.answer.Kind.{Kind}
use Rattle.term_search.specs.declared.answer.Kind.TheVariants.{Slop, Regex}
use Rattle.term_search.specs.declared.answer.SearchError.{SearchError}
use Rattle.term_search.specs.declared.answer.SearchError.TheVariants as errors
use Rattle.term_search.specs.Leaves.{first_unsupported, has_waiting_leaf}
use Rattle.term_search.specs.Searching.{IsSearched, CanBeSearched, IsWhole}
use Rattle.term_index.specs.declared.outcome.Outcome.{Outcome}
use Rattle.term_index.specs.declared.outcome.Outcome.TheVariants.{Done, NotYet, Query, TooDeep, UnsupportedSlop, UnsupportedRegex, Version, Corrupt, Compressed, ReadFault, OutFault, Memory}
use Rattle.term_index.specs.Outcomes.{IsAmong}
use Rattle.term_index.specs.Giving.{Gives}
use Rattle.term_index.specs.Printing.{lines}

-- ---- how it ends

abbrev pub unsupported_end : Option Kind → Outcome → Outcome
unsupported_end None end = end
unsupported_end (Some Slop) end = UnsupportedSlop
unsupported_end (Some Regex) end = UnsupportedRegex

abbrev pub leaves_end : UserInputAst → Outcome
leaves_end tree = if has_waiting_leaf tree then NotYet else Done

abbrev pub answer_end : grammar.Answer → Outcome
answer_end (grammar.Tree tree) = unsupported_end (first_unsupported tree) (leaves_end tree)
answer_end grammar.Refused = Query
answer_end grammar.TooDeep = TooDeep

-- by the query
unfoldable pub query_end : List ℕ → Outcome
query_end query = answer_end (tree_of query)

-- the file is of this version, which is not known
pub record IsOfVersion (file : List ℕ) (version : ℕ) : Type 0 where
  pub version_is : version_of file ≡ Some version
  pub unknown : is_known version ≡ false

-- the file is damaged, and this is the place of a compressed block
pub record IsCompressed (file : List ℕ) (place : ℕ) : Type 0 where
  pub damaged : IsDamaged file
  pub compressed : is_compressed_at place file ≡ true

-- What an outcome says of the file, where it is told. No other outcome comes.
abbrev pub SaysOfFile : Outcome → Option (List ℕ) → Type 0
SaysOfFile Done file = IfSome file CanBeOpened
SaysOfFile OutFault file = IfSome file CanBeOpened
SaysOfFile (Version version) file = IfSome file (λ bytes. IsOfVersion bytes version)
SaysOfFile Corrupt file = IfSome file IsDamaged
SaysOfFile (Compressed place) file = IfSome file (λ bytes. IsCompressed bytes place)
SaysOfFile ReadFault file = Unit {0}
SaysOfFile Memory file = Unit {0}
SaysOfFile _ file = ⊥

-- By the file, but for a fault or want of memory. One that has a table and can be opened is searched.
pub record FileEnds (file : FileState) (outcome : Outcome) : Type 0 where
  pub says : SaysOfFile outcome file.contents
  pub short : file.size < 4 → IsAmong (Corrupt ∷ Memory ∷ []) outcome
  pub version : IfSome file.contents (λ bytes. (version : ℕ) → IsOfVersion bytes version → IsAmong (Version version ∷ ReadFault ∷ Memory ∷ []) outcome)
  pub complete : IsWhole file.contents → IsAmong (Done ∷ ReadFault ∷ OutFault ∷ Memory ∷ []) outcome

-- A query that cannot be searched for ends the command; else the file does.
pub record SearchEnds (query : List ℕ) (file : FileState) (outcome : Outcome) : Type 0 where
  pub refused : ¬ CanBeSearched query → IsAmong (query_end query ∷ Memory ∷ []) outcome
  pub searched : CanBeSearched query → FileEnds file outcome

-- an error of a search, as an outcome
abbrev pub error_end : SearchError → Outcome
error_end errors.Memory = Memory
error_end (errors.Query error) = Query
error_end errors.TooDeep = TooDeep
error_end (errors.Unsupported Slop) = UnsupportedSlop
error_end (errors.Unsupported Regex) = UnsupportedRegex
error_end errors.NotYet = NotYet
error_end (errors.Version version) = Version version
error_end errors.Corrupt = Corrupt
error_end (errors.Compressed place) = Compressed place
error_end errors.Read = ReadFault

-- ---- what it prints

-- The numbers are those of the documents that satisfy the query's tree; where the query is a printed plain expression, they are
-- those of the documents that mean it.
pub record AreFound (query field : List ℕ) (tree : UserInputAst) (docs : List Doc) (ids : List ℕ) : Type 0 where
  pub satisfying : ids ≡ satisfying docs tree field
  pub meaning : AnswersPrinted docs query ids

-- The text has a line for each number that the query finds in the documents of which the file is an index.
pub record IsFound (query field : List ℕ) (file : Option (List ℕ)) (text : List ℕ) : Type 0 where
  pub tree : UserInputAst
  pub searched : IsSearched query tree
  pub opened : IfSome file CanBeOpened
  pub ids : List ℕ
  pub found : IfSome file (λ bytes. (docs : List Doc) → IsIndexOf bytes docs → AreFound query field tree docs ids)
  pub text_is : text ≡ lines ids

abbrev pub Searches : List ℕ → List ℕ → Outcome → FileState → Option (List ℕ) → Option (List ℕ) → Type 0
Searches query field outcome file old new = Gives (IsFound query field file.contents) OutFault outcome old new
