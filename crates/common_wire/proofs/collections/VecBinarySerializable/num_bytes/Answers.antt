use Rattle.std.proofs.Common.{ℕ, List, length, length-append, arith, ap, refl}
use Rattle.std.specs.List.{flat_map}
use Rattle.common_wire.specs.Wire.{vint_bytes}
use Rattle.common_wire.proofs.ListsRead.{list_bytes-seen, All-shown}
use Rattle.common_wire.proofs.collections.VecBinarySerializable.num_bytes.Goals as goal

pub items_num_bytes-requires : goal.items_num_bytes-requires
items_num_bytes-requires g c = rw c.as_slice-items.ensures.value (All-shown g.T.BinarySerializable.shown g.T.BinarySerializable.can_write c.args.self.now.items c.requires.1)

pub returns : goal.returns
returns g c =
    let f : g.row.T.Denot → List ℕ = λ x. g.T.BinarySerializable.wire (g.T.BinarySerializable.as_written (g.T.BinarySerializable.shown x)) in
    let seen = c.as_slice-items.result.now in
    let is = list_bytes-seen g.T.BinarySerializable.shown g.T.BinarySerializable.as_written g.T.BinarySerializable.wire c.args.self.now.items seen (length seen) c.as_slice-items.ensures.value refl in
    omega (arith, ap length is, length-append (vint_bytes (length seen)) (flat_map f seen), c.num_bytes.ensures, c.items_num_bytes.ensures, c.saturating_add.ensures)
