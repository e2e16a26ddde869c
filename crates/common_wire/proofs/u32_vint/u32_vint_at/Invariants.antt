use Rattle.common_wire.proofs.ShortVints.{ShortRead}
use Rattle.common_wire.proofs.u32_vint.u32_vint_at.Given as goal

abbrev pub invariant-loop-i : goal.invariant-loop-i
invariant-loop-i l = ShortRead l.i l.value l.scale l.bytes
