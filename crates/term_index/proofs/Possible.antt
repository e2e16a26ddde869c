-- Which outcomes a command can have.
use Rattle.std.proofs.Common.{◌≡◌, ◌≢◌, ◌∷◌, [], ◌∙◌, inl, inr, ℕ, List, Bool, true, false, Option, Some, None, refl, sym, ap, arith}
use Rattle.std.specs.Prelude.{cond}
use Rattle.std.proofs.lemmas.Bool.{true≢false}
use Rattle.owned_bytes.specs.Outside.{HasCause, FileState}
use Rattle.query_tree.specs.Answer as grammar
use Rattle.query_tree.specs.Answer.{tree_of}
use Rattle.documents.specs.declared.documents.Doc.{Doc}
use Rattle.term_search.specs.declared.answer.Kind.{Kind}
use Rattle.term_search.specs.declared.answer.Kind.TheVariants.{Slop, Regex}
use Rattle.term_index.specs.declared.command_line.TheConstants.{MAX_PAGES}
use Rattle.term_index.specs.declared.outcome.Outcome.{Outcome}
use Rattle.term_index.specs.declared.outcome.Outcome.TheVariants.{Done, NotYet, InputTooLong, BadInput, TooManyDocuments, BadField, KeyTooLong, ArenaFull, Query, TooDeep, UnsupportedSlop, UnsupportedRegex, Version, Corrupt, Compressed, InFault, StoreFault, ReadFault, OutFault, Memory}
use Rattle.term_index.specs.Outcomes.{IsAmong}
use Rattle.term_index.specs.Commands.{Command, build, search, ask, tree, generate}
use Rattle.term_index.specs.Build.{documents_end, BuildEnds}
use Rattle.term_index.specs.Search.{unsupported_end, answer_end, query_end, SaysOfFile, SearchEnds}
use Rattle.term_index.specs.Ask.{then_end, ask_end, AskEnds, QuestionEnds}
use Rattle.term_index.specs.Tree.{shown_end, TreeEnds}
use Rattle.term_index.specs.Running.{CommandEnds}
use Rattle.term_index.proofs.BuildLaws.{documents_end-all, build_end-all}
use Rattle.term_index.proofs.SearchLaws.{searched_or_not}

-- ---- by the definitions of how commands end

-- what holds of each outcome that a query may have
module _ (P : Outcome → Type 0) (done : P Done) (not_yet : P NotYet) (slop : P UnsupportedSlop) (regex : P UnsupportedRegex) (refused : P Query) (deep : P TooDeep) where
  by_leaves : (waits : Bool) → P (cond waits NotYet Done)
  by_leaves true = not_yet
  by_leaves false = done

  by_kind : (kind : Option Kind) (waits : Bool) → P (unsupported_end kind (cond waits NotYet Done))
  by_kind None waits = by_leaves waits
  by_kind (Some Slop) waits = slop
  by_kind (Some Regex) waits = regex

  by_answer : (answer : grammar.Answer) → P (answer_end answer)
  by_answer (grammar.Tree found) = by_kind _ _
  by_answer grammar.Refused = refused
  by_answer grammar.TooDeep = deep

  query_end-all : (query : List ℕ) → P (query_end query)
  unfolding query_end
  query_end-all query = by_answer (tree_of query)

then_end-all : (P : Outcome → Type 0) (first next : Outcome) → P first → P next → P (then_end first next)
then_end-all P Done next holds_first holds_next = holds_next
then_end-all P _ next holds_first holds_next = holds_first

-- ---- which outcomes there may be

abbrev pub may_write : Outcome → Bool
may_write Done = true
may_write TooManyDocuments = true
may_write (BadField doc pair) = true
may_write (KeyTooLong doc pair) = true
may_write ArenaFull = true
may_write StoreFault = true
may_write Memory = true
may_write _ = false

abbrev pub may_build : Outcome → Bool
may_build InputTooLong = true
may_build BadInput = true
may_build InFault = true
may_build outcome = may_write outcome

abbrev pub may_search : Outcome → Bool
may_search Done = true
may_search NotYet = true
may_search Query = true
may_search TooDeep = true
may_search UnsupportedSlop = true
may_search UnsupportedRegex = true
may_search (Version version) = true
may_search Corrupt = true
may_search (Compressed place) = true
may_search ReadFault = true
may_search OutFault = true
may_search Memory = true
may_search _ = false

abbrev pub may_question : Outcome → Bool
may_question Done = true
may_question TooManyDocuments = true
may_question (BadField doc pair) = true
may_question (KeyTooLong doc pair) = true
may_question ArenaFull = true
may_question NotYet = true
may_question Query = true
may_question TooDeep = true
may_question UnsupportedSlop = true
may_question UnsupportedRegex = true
may_question OutFault = true
may_question Memory = true
may_question _ = false

abbrev pub may_ask : Outcome → Bool
may_ask InputTooLong = true
may_ask BadInput = true
may_ask InFault = true
may_ask outcome = may_question outcome

abbrev pub may_show : Outcome → Bool
may_show Done = true
may_show Query = true
may_show TooDeep = true
may_show OutFault = true
may_show Memory = true
may_show _ = false

abbrev pub may_generate : Outcome → Bool
may_generate NotYet = true
may_generate _ = false

abbrev pub may : Command → Outcome → Bool
may (build path pages) = may_build
may (search path field query) = may_search
may (ask field query) = may_ask
may (tree query) = may_show
may (generate seed count) = may_generate

other_than : (may : Outcome → Bool) (outcome other : Outcome) → may outcome ≡ true → may other ≡ false → outcome ≢ other
other_than may outcome other holds fails is = true≢false (sym holds ∙ ap may is ∙ fails)

of_write : (pages : ℕ) (docs : List Doc) (outcome : Outcome) → IsAmong (documents_end pages docs ∷ StoreFault ∷ Memory ∷ []) outcome → may_write outcome ≡ true
of_write pages docs outcome ends = elim ends [
  | inl is ↦ ap may_write is ∙ documents_end-all (λ end. may_write end ≡ true) refl refl (λ doc pair. refl) (λ doc pair. refl) refl pages docs
  | inr (inl is) ↦ ap may_write is
  | inr (inr (inl is)) ↦ ap may_write is
  | inr (inr (inr none)) ↦ absurd none
]

of_question : (query : List ℕ) (docs : List Doc) (outcome : Outcome) → QuestionEnds query docs outcome → may_question outcome ≡ true
of_question query docs outcome ends = elim ends [
  | inl is ↦
      ap may_question is
      ∙ then_end-all (λ end. may_question end ≡ true) (documents_end MAX_PAGES docs) (query_end query)
      (documents_end-all (λ end. may_question end ≡ true) refl refl (λ doc pair. refl) (λ doc pair. refl) refl MAX_PAGES docs)
      (query_end-all (λ end. may_question end ≡ true) refl refl refl refl refl refl query)
  | inr (inl is) ↦ ap may_question is
  | inr (inr (inl is)) ↦ ap may_question is
  | inr (inr (inr none)) ↦ absurd none
]

of_build : (pages : ℕ) (left : Option (List ℕ)) (outcome : Outcome) → BuildEnds pages left outcome → may_build outcome ≡ true
of_build pages left outcome ends = elim ends.ends [
  | inl is ↦ ap may_build is ∙ build_end-all (λ end. may_build end ≡ true) refl refl (λ doc pair. refl) (λ doc pair. refl) refl refl refl pages ends.bytes
  | inr (inl is) ↦ ap may_build is
  | inr (inr (inl is)) ↦ ap may_build is
  | inr (inr (inr (inl is))) ↦ ap may_build is
  | inr (inr (inr (inr none))) ↦ absurd none
]

of_file : (file : Option (List ℕ)) (outcome : Outcome) → SaysOfFile outcome file → may_search outcome ≡ true
of_file file Done says = refl
of_file file (Version version) says = refl
of_file file Corrupt says = refl
of_file file (Compressed place) says = refl
of_file file ReadFault says = refl
of_file file OutFault says = refl
of_file file Memory says = refl
of_file file _ says = absurd says

of_search : (query : List ℕ) (file : FileState) (outcome : Outcome) → SearchEnds query file outcome → may_search outcome ≡ true
of_search query file outcome ends = elim (searched_or_not query) [
  | inl searched ↦ of_file file.contents outcome (ends.searched searched).says
  | inr unsearched ↦ elim (ends.refused unsearched) [
    | inl is ↦ ap may_search is ∙ query_end-all (λ end. may_search end ≡ true) refl refl refl refl refl refl query
    | inr (inl is) ↦ ap may_search is
    | inr (inr none) ↦ absurd none
  ]
]

of_ask : (query : List ℕ) (left : Option (List ℕ)) (outcome : Outcome) → AskEnds query left outcome → may_ask outcome ≡ true
unfolding ask_end
of_ask query left outcome ends = elim ends.ends [
  | inl is ↦
      ap may_ask is
      ∙ then_end-all (λ end. may_ask end ≡ true) _ (query_end query)
      (build_end-all (λ end. may_ask end ≡ true) refl refl (λ doc pair. refl) (λ doc pair. refl) refl refl refl MAX_PAGES ends.bytes)
      (query_end-all (λ end. may_ask end ≡ true) refl refl refl refl refl refl query)
  | inr (inl is) ↦ ap may_ask is
  | inr (inr (inl is)) ↦ ap may_ask is
  | inr (inr (inr (inl is))) ↦ ap may_ask is
  | inr (inr (inr (inr none))) ↦ absurd none
]

by_tree : (answer : grammar.Answer) → may_show (shown_end answer) ≡ true
by_tree (grammar.Tree found) = refl
by_tree grammar.Refused = refl
by_tree grammar.TooDeep = refl

of_tree : (query : List ℕ) (outcome : Outcome) → TreeEnds query outcome → may_show outcome ≡ true
of_tree query outcome ends = elim ends [
  | inl is ↦ ap may_show is ∙ by_tree (tree_of query)
  | inr (inl is) ↦ ap may_show is
  | inr (inr (inl is)) ↦ ap may_show is
  | inr (inr (inr none)) ↦ absurd none
]

-- ---- what never comes

pub write_never : (pages : ℕ) (docs : List Doc) (outcome other : Outcome) → IsAmong (documents_end pages docs ∷ StoreFault ∷ Memory ∷ []) outcome → may_write other ≡ false → outcome ≢ other
write_never pages docs outcome other ends = other_than may_write outcome other (of_write pages docs outcome ends)

pub question_never : (query : List ℕ) (docs : List Doc) (outcome other : Outcome) → QuestionEnds query docs outcome → may_question other ≡ false → outcome ≢ other
question_never query docs outcome other ends = other_than may_question outcome other (of_question query docs outcome ends)

pub command_never : (outcome other : Outcome) (left : Option (List ℕ)) (file : FileState) (command : Command) → CommandEnds outcome left file command → may command other ≡ false → outcome ≢ other
command_never outcome other left file (build path pages) ends = other_than may_build outcome other (of_build pages left outcome ends)
command_never outcome other left file (search path field query) ends = other_than may_search outcome other (of_search query file outcome ends)
command_never outcome other left file (ask field query) ends = other_than may_ask outcome other (of_ask query left outcome ends)
command_never outcome other left file (tree query) ends = other_than may_show outcome other (of_tree query outcome ends)
command_never outcome other left file (generate seed count) ends = other_than may_generate outcome other (ap may_generate ends)

-- a count that stays has no fault to tell of
pub unmoved : (n : ℕ) (failure : Type 0) → ¬ failure → HasCause n n failure
unmoved n failure none = record { later = omega arith; rose = λ is. absurd (none is) }
