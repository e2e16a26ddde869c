-- By the index of the documents, or why there is none.
use Rattle.std.proofs.KnownBytes.{Keeps-refl}
use Rattle.term_index.proofs.AskLaws.{not_kept_ends, not_kept_answers, not_out}
use Rattle.term_index.proofs.Possible.{unmoved}
use Rattle.term_index.proofs.commands.ask.ask_documents.Goals as goal

pub returns-in-Ok-clause-ends : goal.returns-in-Ok-clause-ends
returns-in-Ok-clause-ends g c = c.ask_index.ensures.ends c.args.docs.now c.in-Ok.ensures.index

pub returns-in-Ok-clause-prints : goal.returns-in-Ok-clause-prints
returns-in-Ok-clause-prints g c = c.ask_index.ensures.prints c.args.docs.now c.in-Ok.ensures.index

pub returns-in-Err-clause-ends : goal.returns-in-Err-clause-ends
returns-in-Err-clause-ends g c = not_kept_ends c.args.query.now c.args.field.now c.args.docs.now c.in-Err.outcome c.in-Err.ensures.not_kept

pub returns-in-Err-clause-prints : goal.returns-in-Err-clause-prints
returns-in-Err-clause-prints g c = not_kept_answers c.args.query.now c.args.field.now c.args.docs.now c.in-Err.outcome c.in-Err.ensures.not_kept _ _ (Keeps-refl _)

pub returns-in-Err-clause-out_fault : goal.returns-in-Err-clause-out_fault
returns-in-Err-clause-out_fault g c = unmoved _ _ (not_out c.args.query.now c.args.field.now c.args.docs.now c.in-Err.outcome c.in-Err.ensures.not_kept)
