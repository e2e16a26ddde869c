use Rattle.std.proofs.Common.{refl}
use Rattle.std.proofs.lemmas.Bool.{lt-ltb, le-ltb}
use Rattle.std.proofs.lemmas.Result.{err_from_is_err_and}
use Rattle.common_wire.proofs.NumbersRead.{Takes-flag, Takes-bad_flag, Takes-no_flag}
use Rattle.common_wire.proofs.fixed.BoolBinarySerializable.deserialize.Goals as goal

pub returns-in_err-byte-clause-bytes : goal.returns-in_err-byte-clause-bytes
returns-in_err-byte-clause-bytes g c =
    let p = err_from_is_err_and c.from_residual.result c.from_residual.ensures.1 in
    rw (p.1, p.2) (Takes-no_flag _ _ _ c.in_err-byte.ensures.bytes)

pub returns-then-byte-lt2-clause-bytes : goal.returns-then-byte-lt2-clause-bytes
returns-then-byte-lt2-clause-bytes g c = Takes-flag _ _ _ _ (lt-ltb _ 2 c.if-byte-lt2.true) refl c.in_ok-byte.ensures.bytes

pub returns-else-byte-lt2-clause-bytes : goal.returns-else-byte-lt2-clause-bytes
returns-else-byte-lt2-clause-bytes g c = Takes-bad_flag _ _ _ (le-ltb _ 2 c.if-byte-lt2.false) c.in_ok-byte.ensures.bytes
