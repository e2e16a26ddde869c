-- By the documents that the source tells, or before they are known.
use Rattle.std.proofs.Common.{List, refl, subst, sym}
use Rattle.std.proofs.KnownBytes.{Keeps-refl}
use Rattle.documents.specs.declared.documents.Doc.{Doc}
use Rattle.term_index.specs.declared.outcome.Outcome.TheVariants.{InputTooLong, InFault}
use Rattle.term_index.specs.Source.{Tells}
use Rattle.term_index.proofs.AskLaws.{told_ask_ends, unread_ask_ends, told_asks, unread_asks}
use Rattle.term_index.proofs.Possible.{question_never}
use Rattle.term_index.proofs.commands.ask.ask.Goals as goal

pub returns-in-Ok-clause-ends : goal.returns-in-Ok-clause-ends
returns-in-Ok-clause-ends g c =
    told_ask_ends c.args.query.now c.args.field.now _ c.ask_documents.result _ (subst (λ (docs : List Doc). Tells (g.S.Source.left c.args.docs.now) docs) (sym c.as_slice.ensures.value) c.in-Ok.ensures.told) c.ask_documents.ensures.ends

pub returns-in-Ok-clause-prints : goal.returns-in-Ok-clause-prints
returns-in-Ok-clause-prints g c =
    told_asks c.args.query.now c.args.field.now _ c.ask_documents.result _ _ _ (subst (λ (docs : List Doc). Tells (g.S.Source.left c.args.docs.now) docs) (sym c.as_slice.ensures.value) c.in-Ok.ensures.told) c.ask_documents.ensures.prints

pub returns-in-Err-clause-ends : goal.returns-in-Err-clause-ends
returns-in-Err-clause-ends g c = unread_ask_ends c.args.query.now c.args.field.now _ c.in-Err.outcome c.in-Err.ensures.unread

pub returns-in-Err-clause-prints : goal.returns-in-Err-clause-prints
returns-in-Err-clause-prints g c = unread_asks c.args.query.now c.args.field.now _ c.in-Err.outcome _ _ c.in-Err.ensures.unread (Keeps-refl _)

pub returns-in-Ok-clause-in_fault : goal.returns-in-Ok-clause-in_fault
returns-in-Ok-clause-in_fault g c = record {
  later = c.in-Ok.ensures.cause.later;
  rose = λ is. absurd (question_never c.args.query.now _ c.ask_documents.result InFault c.ask_documents.ensures.ends refl is);
}

pub returns-in-Ok-clause-too_long : goal.returns-in-Ok-clause-too_long
returns-in-Ok-clause-too_long g c = λ is. absurd (question_never c.args.query.now _ c.ask_documents.result InputTooLong c.ask_documents.ensures.ends refl is)
