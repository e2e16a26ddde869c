use Rattle.std.proofs.Common.{◌≡◌, take, sum}
use Rattle.common_wire.proofs.byte_count.ByteCount.total.Given as goal

abbrev pub invariant-loop-item : goal.invariant-loop-item
invariant-loop-item l = l.total ≡ sum (take l.item-index l.items)
