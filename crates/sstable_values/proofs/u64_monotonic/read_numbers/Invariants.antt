use Rattle.std.proofs.Common.{◌-◌}
use Rattle.sstable_values.proofs.MonotonicLaws.{NumbersOn}
use Rattle.sstable_values.proofs.u64_monotonic.read_numbers.Given as goal

abbrev pub invariant-loop-i : goal.invariant-loop-i
invariant-loop-i l = NumbersOn (l.count - l._i) l.before l.taken l.vals.items l.content
