use Rattle.std.proofs.Common.{List, ℕ, suc, ◌++◌, take, drop, sym, subst}
use Rattle.std.specs.List.{flat_map}
use Rattle.std.proofs.lemmas.Result.{err_from_is_err_and}
use Rattle.owned_bytes.specs.Outside.{AppendsPrefix}
use Rattle.owned_bytes.proofs.InTurn.{AppendsPrefix-first, AppendsPrefix-second}
use Rattle.common_wire.proofs.ListsRead.{flat_map-split}
use Rattle.common_wire.proofs.collections.serialize_items.Goals as goal

pub returns-in_err-serialize-clause-bytes : goal.returns-in_err-serialize-clause-bytes
returns-in_err-serialize-clause-bytes g c =
    let p = err_from_is_err_and c.from_residual.result c.from_residual.ensures.1 in
    let f : g.row.T.Denot → List ℕ = λ x. g.T.BinarySerializable.wire (g.T.BinarySerializable.as_written (g.T.BinarySerializable.shown x)) in
    let others = flat_map f (drop (suc c.loop-item.item-index) c.args.items.now) in
    let split = flat_map-split f c.args.items.now c.loop-item.item-index c.item-item.result c.loop-item-test.true c.item-item.is in
    rw p.1 (subst (AppendsPrefix _ _) (sym split) (AppendsPrefix-second _ _ _ (flat_map f (take c.loop-item.item-index c.args.items.now)) (f c.item-item.result ++ others) c.loop-item.invariant.appended
    (AppendsPrefix-first _ _ (f c.item-item.result) others c.in_err-serialize.ensures.bytes)))
