-- How an answer is written, by what was appended.
use Rattle.std.proofs.Common.{◌≢◌, inl, inr, ℕ, List, Option, refl}
use Rattle.std.specs.Io.KnownBytes.{Keeps}
use Rattle.term_index.specs.declared.outcome.Outcome.{Outcome}
use Rattle.term_index.specs.declared.outcome.Outcome.TheVariants.{Done, OutFault, Memory}
use Rattle.term_index.specs.Giving.{Gives}
use Rattle.term_index.specs.Printing.{PrintsText}

-- nothing, where the outcome is neither done nor that fault
pub gives_nothing : (IsAnswer : List ℕ → Type 0) (fault outcome : Outcome) (old new : Option (List ℕ)) → Keeps old new → outcome ≢ Done → outcome ≢ fault → Gives IsAnswer fault outcome old new
gives_nothing IsAnswer fault outcome old new keeps not_done not_fault = record {
  done = λ is. absurd (not_done is);
  failed = λ is. absurd (not_fault is);
  memory = λ is. inl keeps;
  nothing = λ done failed memory. keeps;
}

-- a text that is an answer and was printed
pub gives_text : (IsAnswer : List ℕ → Type 0) (outcome : Outcome) (text : List ℕ) (old new : Option (List ℕ)) → IsAnswer text → PrintsText outcome text old new → Gives IsAnswer OutFault outcome old new
gives_text IsAnswer Done text old new answer prints = record {
  done = λ is. (text, answer, prints);
  failed = λ is. cc;
  memory = λ is. cc;
  nothing = λ done failed memory. absurd (done refl);
}
gives_text IsAnswer OutFault text old new answer prints = record {
  done = λ is. cc;
  failed = λ is. (text, answer, prints);
  memory = λ is. cc;
  nothing = λ done failed memory. absurd (failed refl);
}
gives_text IsAnswer Memory text old new answer prints = record {
  done = λ is. cc;
  failed = λ is. cc;
  memory = λ is. inr (text, answer, prints);
  nothing = λ done failed memory. absurd (memory refl);
}
gives_text IsAnswer _ text old new answer prints = absurd prints

-- what is an answer is one of another kind
pub gives_weaker : (P Q : List ℕ → Type 0) (fault outcome : Outcome) (old new : Option (List ℕ)) → ((text : List ℕ) → P text → Q text) → Gives P fault outcome old new → Gives Q fault outcome old new
gives_weaker P Q fault outcome old new weaker gives = record {
  done = λ is. let says = gives.done is in (says.0, weaker says.0 says.1, says.2);
  failed = λ is. let says = gives.failed is in (says.0, weaker says.0 says.1, says.2);
  memory = λ is. elim (gives.memory is) [ inl keeps ↦ inl keeps | inr says ↦ inr (says.0, weaker says.0 says.1, says.2) ];
  nothing = gives.nothing;
}
