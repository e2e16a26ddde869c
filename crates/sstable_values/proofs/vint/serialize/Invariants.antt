use Rattle.std.proofs.Common.{◌-◌}
use Rattle.sstable_values.proofs.VintLaws.{Progress}
use Rattle.sstable_values.proofs.vint.serialize.Given as goal

abbrev pub invariant-loop-rest : goal.invariant-loop-rest
invariant-loop-rest l = Progress l.val (10 - l.len) l.len l.rest l.buffer l.fn.buffer

abbrev pub decreases-loop-rest : goal.decreases-loop-rest
decreases-loop-rest l = l.rest
