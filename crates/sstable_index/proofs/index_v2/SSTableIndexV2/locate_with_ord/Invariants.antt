use Rattle.std.proofs.Common.{◌-◌}
use Rattle.sstable_index.specs.Building.{addresses_in}
use Rattle.sstable_index.proofs.Looking.{Halves}
use Rattle.sstable_index.proofs.index_v2.SSTableIndexV2.locate_with_ord.Given as goal

abbrev pub invariant-halve : goal.invariant-halve
invariant-halve l = Halves (addresses_in l.self) l.ord l.low l.high

abbrev pub decreases-halve : goal.decreases-halve
decreases-halve l = l.high - l.low
