use Rattle.fst_map.proofs.Opening.{AreKeysSo}
use Rattle.fst_map.proofs.opened.are_keys.Given as goal

abbrev pub invariant-loop-i : goal.invariant-loop-i
invariant-loop-i l = AreKeysSo l.len l.i l.bytes l.start l.before
