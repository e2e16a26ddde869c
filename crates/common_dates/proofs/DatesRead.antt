-- Dates from a source.
use Rattle.std.proofs.Common.{◌≡◌, ℤ, List, ℕ, Bool, Option, Ok, Err, ap}
use Rattle.std.specs.Prelude.{pos, ◌*ℤ◌, FitsSigned}
use Rattle.std.specs.Int.{w64}
use Rattle.common_wire.specs.Taking.{Wrong, Taking, ◌>>=◌, give, only_if}
use Rattle.common_wire.specs.Wire.{signed}
use Rattle.common_wire.specs.Serialized.{Takes}
use Rattle.common_wire.specs.declared.error.WireError.{WireError}
use Rattle.common_wire.specs.declared.error.WireError.TheVariants.{Invalid}
use Rattle.common_wire.specs.TakingLaws.{IsTaking-give, IsTaking-only_if}
use Rattle.common_wire.specs.NumberLaws.{IsTaking-signed}
use Rattle.common_wire.proofs.FromSources.{GoesOn, GoesOn-then, GoesOn-same, Takes-whole, Takes-failed, Takes-give, Takes-refuse}
use Rattle.common_dates.specs.Dates.{microsecond, fits_i64, date}
use Rattle.common_dates.specs.DateLaws.{fits_i64-true, fits_i64-false}

module _ (old now : Option (List ℕ)) where
  abbrev next : ℤ → Taking ℤ
  next m = only_if (fits_i64 (m *ℤ pos microsecond)) (give (m *ℤ pos microsecond))

  pub Takes-date : (m n : ℤ) → FitsSigned w64 (m *ℤ pos microsecond) → n ≡ m *ℤ pos microsecond → Takes (λ (i : ℤ). i) signed old now (Ok m) → Takes (λ (i : ℤ). i) date old now (Ok n)
  unfolding date
  Takes-date m n fits is took =
      let went : GoesOn (signed >>= next) (next m) old now = GoesOn-then (λ (i : ℤ). i) signed next old now m IsTaking-signed took in
      Takes-whole (λ (i : ℤ). i) (signed >>= next) (give (m *ℤ pos microsecond)) old now now (Ok n)
      (GoesOn-same (signed >>= next) (next m) (give (m *ℤ pos microsecond)) old now (λ left. ap (λ (t : Bool). only_if t (give (m *ℤ pos microsecond)) left) (fits_i64-true (m *ℤ pos microsecond) fits)) went)
      (Takes-give (λ (i : ℤ). i) n (m *ℤ pos microsecond) now is)

  pub Takes-bad_date : (m : ℤ) → ¬ FitsSigned w64 (m *ℤ pos microsecond) → Takes (λ (i : ℤ). i) signed old now (Ok m) → Takes (λ (i : ℤ). i) date old now (Err Invalid)
  unfolding date
  Takes-bad_date m over took =
      let went : GoesOn (signed >>= next) (next m) old now = GoesOn-then (λ (i : ℤ). i) signed next old now m IsTaking-signed took in
      let refused : Taking ℤ = λ bytes. Wrong in
      Takes-whole (λ (i : ℤ). i) (signed >>= next) refused old now now (Err Invalid)
      (GoesOn-same (signed >>= next) (next m) refused old now (λ left. ap (λ (t : Bool). only_if t (give (m *ℤ pos microsecond)) left) (fits_i64-false (m *ℤ pos microsecond) over)) went)
      (Takes-refuse (λ (i : ℤ). i) now)

  pub Takes-no_date : (e : WireError) → Takes (λ (i : ℤ). i) signed old now (Err e) → Takes (λ (i : ℤ). i) date old now (Err e)
  unfolding date
  Takes-no_date e failed = Takes-failed (λ (i : ℤ). i) (λ (i : ℤ). i) signed next old now e (λ m. IsTaking-only_if (fits_i64 (m *ℤ pos microsecond)) _ (IsTaking-give (m *ℤ pos microsecond))) failed
