use Rattle.query_tree.proofs.LeftGroups.{from_the_left}
use Rattle.query_tree.proofs.aggregating.aggregates_from_the_left.Goals as goal

pub returns : goal.returns
returns c = from_the_left
