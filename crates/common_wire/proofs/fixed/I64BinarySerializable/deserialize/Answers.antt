use Rattle.std.specs.Prelude.{FitsSigned}
use Rattle.std.proofs.Common.{◌∙◌}
use Rattle.std.specs.Int.{w64}
use Rattle.std.proofs.lemmas.Int.{to_z-of_z}
use Rattle.std.proofs.lemmas.Result.{err_from_is_err_and}
use Rattle.common_wire.proofs.NumbersRead.{Takes-signed, Takes-no_signed}
use Rattle.common_wire.proofs.fixed.I64BinarySerializable.deserialize.Goals as goal

pub returns-in_err-bits-clause-bytes : goal.returns-in_err-bits-clause-bytes
returns-in_err-bits-clause-bytes g c =
    let p = err_from_is_err_and c.from_residual.result c.from_residual.ensures.1 in
    rw (p.1, p.2) (Takes-no_signed _ _ _ c.in_err-bits.ensures.bytes)

pub returns-clause-bytes : goal.returns-clause-bytes
returns-clause-bytes g c =
    let fits : FitsSigned w64 c.cast_signed.result = record { sfits = c.cast_signed.type_inv } in
    Takes-signed _ _ _ _ (to_z-of_z w64 c.cast_signed.result fits ∙ c.cast_signed.ensures) c.in_ok-bits.ensures.bytes
