use Rattle.std.proofs.Common.{◌-◌, length}
use Rattle.common_wire.proofs.SevenBits.{Progress}
use Rattle.common_wire.proofs.groups.put_groups.Given as goal

abbrev pub invariant-loop-buffer : goal.invariant-loop-buffer
invariant-loop-buffer g l = Progress (g.N.Grouped.number l.fn.val) (length l.buffer - l.len) l.len (g.N.Grouped.number l.rest) l.buffer

abbrev pub decreases-loop-buffer : goal.decreases-loop-buffer
decreases-loop-buffer g l = g.N.Grouped.number l.rest
