use Rattle.std.proofs.Common.{◌≡◌, ◌-◌, ◌^◌, take, length, min}
use Rattle.std.specs.List.{flat_map}
use Rattle.common_wire.proofs.collections.items_num_bytes.Given as goal

abbrev pub invariant-loop-item : goal.invariant-loop-item
invariant-loop-item g l = l.sum ≡ min (length (flat_map (λ x. g.T.BinarySerializable.wire (g.T.BinarySerializable.as_written (g.T.BinarySerializable.shown x))) (take l.item-index l.items))) (2 ^ 64 - 1)
