-- How `ask` ends, and what it prints.
use Rattle.std.proofs.Common.{◌≡◌, ◌≢◌, ◌∷◌, [], inl, inr, ℕ, List, Option, Some, None, refl, sym, ap, ◌∙◌, subst, arith}
use Rattle.std.specs.Prelude.{is_some}
use Rattle.std.specs.Io.KnownBytes.{Keeps}
use Rattle.owned_bytes.specs.Front.{◌>>=◌, provided}
use Rattle.owned_bytes.specs.Outside.{HasCause, FileState}
use Rattle.sstable_format.specs.Version.{is_known}
use Rattle.documents.specs.declared.documents.Doc.{Doc}
use Rattle.documents.specs.Postings.{Postings, gather}
use Rattle.index_file.specs.IndexFile.{table_of}
use Rattle.index_writing.specs.Writes.{IsWrittenFor}
use Rattle.term_search.specs.Searching.{IsWhole}
use Rattle.term_index.specs.declared.command_line.TheConstants.{MAX_PAGES}
use Rattle.term_index.specs.declared.outcome.Outcome.{Outcome}
use Rattle.term_index.specs.declared.outcome.Outcome.TheVariants.{Done, InputTooLong, BadInput, InFault, ReadFault, OutFault, Memory}
use Rattle.term_index.specs.Outcomes.{IsAmong}
use Rattle.term_index.specs.Source.{AreHeld, Tells, Unread}
use Rattle.term_index.specs.Build.{documents_end, build_end}
use Rattle.term_index.specs.Search.{query_end, SearchEnds, IsFound, Searches}
use Rattle.term_index.specs.Ask.{then_end, question_end, ask_end, AskEnds, QuestionEnds, AreNotKept, IsAnswered, IsAsked, Asks, AnswersQuestion}
use Rattle.term_index.proofs.SourceLaws.{some_held}
use Rattle.term_index.proofs.GivingLaws.{gives_nothing, gives_weaker}
use Rattle.term_index.proofs.BuildLaws.{kept_end, kept_of, long_end, short_end, told_end, kept_bytes_end, unread_other, documents_end-all}
use Rattle.term_index.proofs.SearchLaws.{searched_end, searched_or_not}

-- ---- over an index that was written for documents

no_fault : (failure : Type 0) → HasCause 0 0 failure → ¬ failure
no_fault failure cause is = omega (arith, cause.rose is)

module _ (query field file : List ℕ) (docs : List Doc) (written : IsWrittenFor docs MAX_PAGES file) where
  question_is : question_end query docs ≡ query_end query
  question_is = ap (λ end. then_end end (query_end query)) (kept_end MAX_PAGES docs (kept_of MAX_PAGES docs file written))

  apart : (o : Option Postings) (p : Postings) → o ≡ None → o ≡ Some p → ⊥
  apart o p a b = cc

  whole : IsWhole (Some file)
  whole = (
    λ none. apart (table_of file) (gather docs) none written.index.table,
    ap (λ (o : Option ℕ). is_some (o >>= (λ v. provided (is_known v)))) written.version,
  )

  pub ends_over_file : (state : FileState) (outcome : Outcome) → state.contents ≡ Some file → HasCause 0 0 (outcome ≡ ReadFault) → SearchEnds query state outcome → QuestionEnds query docs outcome
  ends_over_file state outcome told cause ends = elim (searched_or_not query) [
    | inl searched ↦ elim ((ends.searched searched).complete (subst IsWhole (sym told) whole)) [
      | inl done ↦ inl (done ∙ sym (question_is ∙ searched_end query searched.0 searched.1))
      | inr (inl read) ↦ absurd (no_fault (outcome ≡ ReadFault) cause read)
      | inr (inr (inl out)) ↦ inr (inl out)
      | inr (inr (inr (inl memory))) ↦ inr (inr (inl memory))
      | inr (inr (inr (inr none))) ↦ absurd none
    ]
    | inr unsearched ↦ elim (ends.refused unsearched) [
      | inl by_query ↦ inl (by_query ∙ sym question_is)
      | inr (inl memory) ↦ inr (inr (inl memory))
      | inr (inr none) ↦ absurd none
    ]
  ]

  answered : (text : List ℕ) → IsFound query field (Some file) text → IsAnswered query field docs text
  answered text found = record {
    kept = kept_of MAX_PAGES docs file written;
    tree = found.tree;
    searched = found.searched;
    ids = found.ids;
    found = found.found docs written.index;
    text_is = found.text_is;
  }

  pub answers_over_file : (state : FileState) (outcome : Outcome) (old new : Option (List ℕ)) → state.contents ≡ Some file → Searches query field outcome state old new → AnswersQuestion query field outcome docs old new
  answers_over_file state outcome old new told searches =
      gives_weaker (IsFound query field state.contents) (IsAnswered query field docs) OutFault outcome old new
      (λ text found. answered text (subst (λ (contents : Option (List ℕ)). IsFound query field contents text) told found)) searches

-- ---- over documents that an index cannot keep

then_other : (end next : Outcome) → end ≢ Done → then_end end next ≡ end
then_other Done next other = absurd (other refl)
then_other _ next other = refl

module _ (query field : List ℕ) (docs : List Doc) (outcome : Outcome) (not_kept : AreNotKept docs outcome) where
  pub not_kept_ends : QuestionEnds query docs outcome
  not_kept_ends = elim not_kept.ends [
    | inl by_documents ↦ inl (sym (ap (λ end. then_end end (query_end query)) (sym by_documents) ∙ then_other outcome (query_end query) not_kept.not_done))
    | inr (inl memory) ↦ inr (inr (inl memory))
    | inr (inr none) ↦ absurd none
  ]

  documents_not_out : documents_end MAX_PAGES docs ≢ OutFault
  documents_not_out = documents_end-all (λ end. end ≢ OutFault) (λ is. cc) (λ is. cc) (λ doc pair is. cc) (λ doc pair is. cc) (λ is. cc) MAX_PAGES docs

  pub not_out : outcome ≢ OutFault
  not_out is = elim not_kept.ends [ inl by_documents ↦ documents_not_out (sym by_documents ∙ is) | inr (inl memory) ↦ absurd (let e : Memory ≡ OutFault = sym memory ∙ is in cc) | inr (inr none) ↦ none ]

  pub not_kept_answers : (old new : Option (List ℕ)) → Keeps old new → AnswersQuestion query field outcome docs old new
  not_kept_answers old new keeps = gives_nothing (IsAnswered query field docs) OutFault outcome old new keeps not_kept.not_done not_out

-- ---- the command

module _ (query field : List ℕ) (left : Option (List ℕ)) (outcome : Outcome) where
  by_bytes : (bytes : List ℕ) (end : Outcome) → build_end MAX_PAGES bytes ≡ end → ask_end query bytes ≡ then_end end (query_end query)
  unfolding ask_end
  by_bytes bytes end is = ap (λ end. then_end end (query_end query)) is

  ask_ends : (bytes : List ℕ) → AreHeld left bytes → IsAmong (ask_end query bytes ∷ InFault ∷ OutFault ∷ Memory ∷ []) outcome → AskEnds query left outcome
  ask_ends bytes held ends = record {
    bytes = bytes;
    held = held;
    ends = ends;
    complete = λ docs spell kept.
        subst (λ (end : Outcome). IsAmong (end ∷ InFault ∷ OutFault ∷ Memory ∷ []) outcome) (by_bytes bytes Done (kept_bytes_end MAX_PAGES bytes docs spell kept)) ends;
  }

  pub told_ask_ends : (docs : List Doc) → Tells left docs → QuestionEnds query docs outcome → AskEnds query left outcome
  told_ask_ends docs told ends = ask_ends told.bytes told.held (elim ends [
    | inl by_question ↦ inl (by_question ∙ sym (by_bytes told.bytes (documents_end MAX_PAGES docs) (told_end MAX_PAGES told.bytes docs told.spell)))
    | inr others ↦ inr (inr others)
  ])

  pub unread_ask_ends : Unread outcome left → AskEnds query left outcome
  unread_ask_ends unread = by outcome refl unread
    where
      by : (ended : Outcome) → outcome ≡ ended → Unread ended left → AskEnds query left outcome
      by InFault is says = let held = some_held left in ask_ends held.0 held.1 (inr (inl is))
      by Memory is says = let held = some_held left in ask_ends held.0 held.1 (inr (inr (inr (inl is))))
      by InputTooLong is says = ask_ends says.bytes says.held (inl (is ∙ sym (by_bytes says.bytes InputTooLong (long_end MAX_PAGES says.bytes says.long))))
      by BadInput is says = ask_ends says.bytes says.held (inl (is ∙ sym (by_bytes says.bytes BadInput (short_end MAX_PAGES says.bytes None says.short says.unspelled))))
      by _ is says = absurd says

  pub told_asks : (docs : List Doc) (old new : Option (List ℕ)) → Tells left docs → AnswersQuestion query field outcome docs old new → Asks query field outcome left old new
  told_asks docs old new told answers =
      gives_weaker (IsAnswered query field docs) (IsAsked query field left) OutFault outcome old new (λ text answered. record { docs = docs; told = told; answered = answered }) answers

  pub unread_asks : (old new : Option (List ℕ)) → Unread outcome left → Keeps old new → Asks query field outcome left old new
  unread_asks old new unread keeps =
      gives_nothing (IsAsked query field left) OutFault outcome old new keeps (unread_other outcome Done left unread (λ says. says)) (unread_other outcome OutFault left unread (λ says. says))
