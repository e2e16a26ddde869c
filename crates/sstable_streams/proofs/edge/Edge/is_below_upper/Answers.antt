use Rattle.std.proofs.Common.{ap}
use Rattle.sstable_streams.specs.Bounds.{bound_key}
use Rattle.sstable_streams.proofs.EdgeLaws.{below-included}
use Rattle.sstable_streams.proofs.edge.Edge.is_below_upper.Goals as goal

pub returns-in-Included : goal.returns-in-Included
returns-in-Included c key beside =
    below-included (bound_key c.args.self.now.bound) c.in-Included.field-0.items key c.args.self.now.order c.args.self.now.comparator c.ne.result (ap bound_key c.in-Included.is) beside c.ne.ensures
