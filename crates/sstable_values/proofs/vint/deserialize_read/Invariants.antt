use Rattle.std.proofs.Common.{◌-◌}
use Rattle.sstable_values.proofs.VintLaws.{Reads}
use Rattle.sstable_values.proofs.vint.deserialize_read.Given as goal

abbrev pub invariant-loop-i : goal.invariant-loop-i
invariant-loop-i l = Reads (10 - l.i) l.i l.value l.scale l.buf

abbrev pub decreases-loop-i : goal.decreases-loop-i
decreases-loop-i l = 9 - l.i
