use Rattle.std.proofs.Common.{length, sym, subst, refl}
use Rattle.std.proofs.lemmas.Result.{err_from_is_err_and}
use Rattle.owned_bytes.specs.Outside.{WritesAll, AppendsPrefix}
use Rattle.owned_bytes.proofs.InTurn.{AppendsPrefix-first, WritesAll-second}
use Rattle.common_wire.proofs.ListsRead.{list_bytes-seen, All-shown}
use Rattle.common_wire.proofs.collections.VecBinarySerializable.serialize.Goals as goal

pub returns-in_err-serialize-clause-bytes : goal.returns-in_err-serialize-clause-bytes
returns-in_err-serialize-clause-bytes g c =
    let p = err_from_is_err_and c.from_residual.result c.from_residual.ensures.1 in
    let seen = c.as_slice-items.result.now in
    let is = list_bytes-seen g.T.BinarySerializable.shown g.T.BinarySerializable.as_written g.T.BinarySerializable.wire c.args.self.now.items seen (length seen) c.as_slice-items.ensures.value refl in
    rw p.1 (subst (AppendsPrefix _ _) (sym is) (AppendsPrefix-first _ _ _ _ c.in_err-serialize.ensures.bytes))

pub serialize_items-requires : goal.serialize_items-requires
serialize_items-requires g c = rw c.as_slice-items.ensures.value (All-shown g.T.BinarySerializable.shown g.T.BinarySerializable.can_write c.args.self.now.items c.requires.1)

pub returns-clause-bytes : goal.returns-clause-bytes
returns-clause-bytes g c =
    let seen = c.as_slice-items.result.now in
    let is = list_bytes-seen g.T.BinarySerializable.shown g.T.BinarySerializable.as_written g.T.BinarySerializable.wire c.args.self.now.items seen (length seen) c.as_slice-items.ensures.value refl in
    subst (WritesAll _ _ c.serialize_items.result) (sym is) (WritesAll-second _ _ _ _ _ _ c.in_ok-serialize.ensures.bytes c.serialize_items.ensures.bytes)
