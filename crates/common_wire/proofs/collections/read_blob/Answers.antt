use Rattle.std.proofs.Common.{ℕ}
use Rattle.std.proofs.lemmas.Result.{err_from_is_err_and}
use Rattle.common_wire.specs.Wire.{length_taken, blob}
use Rattle.common_wire.specs.Taking.{bytes_of}
use Rattle.common_wire.specs.TakingLaws.{IsTaking-bytes_of}
use Rattle.common_wire.specs.ListLaws.{IsTaking-length}
use Rattle.common_wire.proofs.FromSources.{Takes-failed}
use Rattle.common_wire.proofs.ListsRead.{Takes-next}
use Rattle.common_wire.proofs.collections.read_blob.Goals as goal

pub returns-in_err-count-clause-bytes : goal.returns-in_err-count-clause-bytes
unfolding blob
returns-in_err-count-clause-bytes g c =
    let p = err_from_is_err_and c.from_residual.result c.from_residual.ensures.1 in
    rw (p.1, p.2) (Takes-failed (λ (n : ℕ). n) _ length_taken bytes_of _ _ _ IsTaking-bytes_of c.in_err-count.ensures.bytes)

pub returns-clause-bytes : goal.returns-clause-bytes
unfolding blob
returns-clause-bytes g c = Takes-next (λ (n : ℕ). n) _ length_taken bytes_of _ _ _ _ _ IsTaking-length c.in_ok-count.ensures.bytes c.read_bytes.ensures.bytes
