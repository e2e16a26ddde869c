use Rattle.std.proofs.Common.{ap}
use Rattle.sstable_streams.specs.Bounds.{bound_key}
use Rattle.sstable_streams.proofs.EdgeLaws.{above-excluded}
use Rattle.sstable_streams.proofs.edge.Edge.is_above_lower.Goals as goal

pub returns-in-Excluded : goal.returns-in-Excluded
returns-in-Excluded c key beside =
    above-excluded (bound_key c.args.self.now.bound) c.in-Excluded.field-0.items key c.args.self.now.order c.args.self.now.comparator c.eq.result (ap bound_key c.in-Excluded.is) beside c.eq.ensures
