-- The outcome is that of the writing.
use Rattle.term_index.proofs.BuildLaws.{written_ends, refused_ends}
use Rattle.term_index.proofs.commands.build.write.Goals as goal

pub returns-in-Ok-clause-ends : goal.returns-in-Ok-clause-ends
returns-in-Ok-clause-ends g c = written_ends c.args.pages c.args.docs.now _ _ c.in-Ok.ensures.writes

pub returns-in-Err-clause-ends : goal.returns-in-Err-clause-ends
returns-in-Err-clause-ends g c = rw c.outcome_of.ensures (refused_ends c.args.pages c.args.docs.now _ _ c.in-Err.error c.in-Err.ensures.writes)
