use Rattle.std.proofs.lemmas.Result.{err_from_is_err_and}
use Rattle.common_wire.proofs.PairsRead.{Takes-pair, Takes-no_first, Takes-no_second}
use Rattle.common_wire.proofs.fixed.Tuple2BinarySerializable.deserialize.Goals as goal

pub returns-in_err-first-clause-bytes : goal.returns-in_err-first-clause-bytes
returns-in_err-first-clause-bytes g c =
    let p = err_from_is_err_and c.from_residual.result c.from_residual.ensures.1 in
    rw (p.1, p.2) (Takes-no_first g.A.BinarySerializable.shown g.B.BinarySerializable.shown _ _ g.met.B.BinarySerializable.is_taking _ _ _ c.in_err-first.ensures.bytes)

pub returns-in_err-second-clause-bytes : goal.returns-in_err-second-clause-bytes
returns-in_err-second-clause-bytes g c =
    let p = err_from_is_err_and c.from_residual-in_err-second.result c.from_residual-in_err-second.ensures.1 in
    rw (p.1, p.2) (Takes-no_second g.A.BinarySerializable.shown g.B.BinarySerializable.shown _ _ g.met.A.BinarySerializable.is_taking _ _ _ _ _ c.in_ok-first.ensures.bytes c.in_err-second.ensures.bytes)

pub returns-clause-bytes : goal.returns-clause-bytes
returns-clause-bytes g c =
    Takes-pair g.A.BinarySerializable.shown g.B.BinarySerializable.shown _ _ g.met.A.BinarySerializable.is_taking g.met.B.BinarySerializable.is_taking _ _ _ _ _ c.in_ok-first.ensures.bytes c.in_ok-second.ensures.bytes
