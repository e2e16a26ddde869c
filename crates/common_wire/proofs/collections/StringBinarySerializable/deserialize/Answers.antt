use Rattle.std.proofs.Common.{ℕ}
use Rattle.std.proofs.lemmas.Result.{err_from_is_err_and}
use Rattle.common_wire.specs.Wire.{length_taken, text, text_of}
use Rattle.common_wire.specs.ListLaws.{IsTaking-length, IsTaking-text_of}
use Rattle.common_wire.proofs.FromSources.{Takes-failed}
use Rattle.common_wire.proofs.ListsRead.{Takes-next}
use Rattle.common_wire.proofs.collections.StringBinarySerializable.deserialize.Goals as goal

pub returns-in_err-count-clause-bytes : goal.returns-in_err-count-clause-bytes
unfolding text
returns-in_err-count-clause-bytes g c =
    let p = err_from_is_err_and c.from_residual.result c.from_residual.ensures.1 in
    rw (p.1, p.2) (Takes-failed (λ (n : ℕ). n) _ length_taken text_of _ _ _ IsTaking-text_of c.in_err-count.ensures.bytes)

pub returns-clause-bytes : goal.returns-clause-bytes
unfolding text
returns-clause-bytes g c = Takes-next (λ (n : ℕ). n) _ length_taken text_of _ _ _ _ _ IsTaking-length c.in_ok-count.ensures.bytes c.read_text.ensures.bytes
