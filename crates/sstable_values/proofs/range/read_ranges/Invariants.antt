use Rattle.std.proofs.Common.{◌-◌}
use Rattle.sstable_values.proofs.RangeLaws.{SpansOn}
use Rattle.sstable_values.proofs.range.read_ranges.Given as goal

abbrev pub invariant-loop-i : goal.invariant-loop-i
invariant-loop-i l = SpansOn (l.count - l._i) l.before l.taken l.vals.items l.content
