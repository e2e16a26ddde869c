use Rattle.std.specs.Int.{w128}
use Rattle.std.proofs.lemmas.Result.{err_from_is_err_and}
use Rattle.common_wire.proofs.NumbersRead.{Takes-number, Takes-no_number}
use Rattle.common_wire.proofs.fixed.U128BinarySerializable.deserialize.Goals as goal

pub returns-in_err-read_array-clause-bytes : goal.returns-in_err-read_array-clause-bytes
returns-in_err-read_array-clause-bytes g c =
    let p = err_from_is_err_and c.from_residual.result c.from_residual.ensures.1 in
    rw (p.1, p.2) (Takes-no_number w128 _ _ _ c.in_err-read_array.ensures.bytes)

pub returns-clause-bytes : goal.returns-clause-bytes
returns-clause-bytes g c = Takes-number w128 _ _ _ _ c.from_le_bytes.ensures c.in_ok-read_array.ensures.bytes
