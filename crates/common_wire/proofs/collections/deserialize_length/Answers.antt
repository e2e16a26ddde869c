use Rattle.std.proofs.Common.{ℕ, ◌≡◌, ◌<◌, false, arith}
use Rattle.std.specs.Prelude.{nat_le}
use Rattle.std.proofs.lemmas.Bool.{le-leb}
use Rattle.std.proofs.lemmas.Bool.Decides.{nat_tests}
use Rattle.std.proofs.lemmas.Result.{err_from_is_err_and}
use Rattle.common_wire.specs.Wire.{vint, length_taken, max_length}
use Rattle.common_wire.specs.GroupLaws.{IsTaking-vint}
use Rattle.common_wire.proofs.ListsRead.{Takes-passed, Takes-refused, Takes-untested}
use Rattle.common_wire.proofs.collections.deserialize_length.Goals as goal

above : (n : ℕ) → max_length < n → nat_le n max_length ≡ false
above n h = grind (arith, nat_tests)

pub returns-in_err-length-clause-bytes : goal.returns-in_err-length-clause-bytes
unfolding length_taken
returns-in_err-length-clause-bytes g c =
    let p = err_from_is_err_and c.from_residual.result c.from_residual.ensures.1 in
    rw (p.1, p.2) (Takes-untested (λ (n : ℕ). n) vint (λ n. nat_le n max_length) (λ (n : ℕ). n) _ _ _ c.in_err-length.ensures.bytes)

pub returns-then-length-gt-MAX_LENGTH-clause-bytes : goal.returns-then-length-gt-MAX_LENGTH-clause-bytes
unfolding length_taken
returns-then-length-gt-MAX_LENGTH-clause-bytes g c =
    Takes-refused (λ (n : ℕ). n) vint (λ n. nat_le n max_length) (λ (n : ℕ). n) IsTaking-vint _ _ _ (above _ c.if-length-gt-MAX_LENGTH.true) c.in_ok-length.ensures.bytes

pub returns-clause-bytes : goal.returns-clause-bytes
unfolding length_taken
returns-clause-bytes g c =
    Takes-passed (λ (n : ℕ). n) vint (λ n. nat_le n max_length) IsTaking-vint _ _ _ (le-leb _ max_length c.if-length-gt-MAX_LENGTH.false) c.in_ok-length.ensures.bytes
