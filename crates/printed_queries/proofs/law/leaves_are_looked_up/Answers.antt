use Rattle.printed_queries.proofs.FoundLeaves.{leaf_looked_up}
use Rattle.printed_queries.proofs.law.leaves_are_looked_up.Goals as goal

pub returns : goal.returns
returns c = leaf_looked_up
