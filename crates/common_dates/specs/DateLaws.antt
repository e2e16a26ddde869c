-- The laws of dates as bytes. A reader of contracts may skip this file.
use Rattle.std.proofs.Common.{◌≡◌, ℕ, zero, suc, ◌≤◌, lit<, ◌*◌, ◌/◌, ◌^◌, ℤ, List, ◌++◌, Bool, true, false, refl, ap, sym, ◌∙◌, arith, subst}
use Rattle.std.specs.Prelude.{pos, negsuc, neg_ℤ, ◌*ℤ◌, FitsSigned, int_div, nat_lt}
use Rattle.std.specs.Int.{w64, to_le_bytes, cast_unsigned}
use Rattle.std.proofs.lemmas.Bool.{lt-ltb, ltb-true}
use Rattle.common_wire.specs.Taking.{Value, continued, give, only_if}
use Rattle.common_wire.specs.Wire.{signed}
use Rattle.common_wire.specs.Serialized.{IsTaking}
use Rattle.common_wire.specs.TakingLaws.{IsTaking-give, IsTaking-then, IsTaking-only_if}
use Rattle.common_wire.specs.NumberLaws.{IsTaking-signed, signed-again}
use Rattle.common_dates.specs.Dates.{microsecond, whole, truncated, fits_i64, date_bytes, date}

pub IsTaking-date : IsTaking date
unfolding date
IsTaking-date = IsTaking-then signed _ IsTaking-signed (λ n. IsTaking-only_if (fits_i64 (n *ℤ pos microsecond)) _ (IsTaking-give (n *ℤ pos microsecond)))

pub fits_i64-true : (n : ℤ) → FitsSigned w64 n → fits_i64 n ≡ true
fits_i64-true (pos n) fits = lt-ltb n (2 ^ 63) fits.sfits
fits_i64-true (negsuc n) fits = lt-ltb n (2 ^ 63) fits.sfits

div_neg : (n : ℕ) → int_div (neg_ℤ (pos n)) (pos 1000) ≡ neg_ℤ (pos (n / 1000))
div_neg zero = refl
div_neg (suc n) = refl

mul_neg : (n : ℕ) → neg_ℤ (pos n) *ℤ pos 1000 ≡ neg_ℤ (pos (n * 1000))
mul_neg zero = refl
mul_neg (suc n) = refl

neg_fits : (n : ℕ) → n ≤ 2 ^ 63 → FitsSigned w64 (neg_ℤ (pos n))
neg_fits zero h = record { sfits = lit< tt }
neg_fits (suc n) h = record { sfits = omega (arith, h) }

-- what is left after a truncation is whole
pub whole-truncated : (n : ℤ) → whole microsecond (truncated microsecond n) ≡ whole microsecond n
whole-truncated (pos n) = ap pos (omega arith)
whole-truncated (negsuc n) =
    ap (λ z. int_div z (pos 1000)) (mul_neg (suc n / 1000)) ∙ div_neg (suc n / 1000 * 1000) ∙ ap (λ k. neg_ℤ (pos k)) (omega arith)

pub whole-fits : (n : ℤ) → FitsSigned w64 n → FitsSigned w64 (whole microsecond n)
whole-fits (pos n) fits = record { sfits = omega (arith, fits.sfits) }
whole-fits (negsuc n) fits = neg_fits (suc n / 1000) (omega (arith, fits.sfits))

pub truncated-fits : (n : ℤ) → FitsSigned w64 n → FitsSigned w64 (truncated microsecond n)
truncated-fits (pos n) fits = record { sfits = omega (arith, fits.sfits) }
truncated-fits (negsuc n) fits = subst (FitsSigned w64) (sym (mul_neg (suc n / 1000))) (neg_fits (suc n / 1000 * 1000) (omega (arith, fits.sfits)))

pub fits_i64-false : (n : ℤ) → ¬ FitsSigned w64 n → fits_i64 n ≡ false
fits_i64-false (pos n) over = by (nat_lt n (2 ^ 63)) refl
  where
    by : (b : Bool) → nat_lt n (2 ^ 63) ≡ b → b ≡ false
    by true e = absurd (over (record { sfits = ltb-true n (2 ^ 63) e }))
    by false e = refl
fits_i64-false (negsuc n) over = by (nat_lt n (2 ^ 63)) refl
  where
    by : (b : Bool) → nat_lt n (2 ^ 63) ≡ b → b ≡ false
    by true e = absurd (over (record { sfits = ltb-true n (2 ^ 63) e }))
    by false e = refl

-- what was written is read again, whatever follows
pub date-again : (n : ℤ) (rest : List ℕ) → FitsSigned w64 n → date (date_bytes (truncated microsecond n) ++ rest) ≡ Value (truncated microsecond n) rest
unfolding date
date-again n rest fits =
    let step : ℤ → _ = λ m. only_if (fits_i64 (m *ℤ pos microsecond)) (give (m *ℤ pos microsecond)) in
    ap (λ m. continued (signed (to_le_bytes w64 (cast_unsigned w64 m) ++ rest)) step) (whole-truncated n)
    ∙ ap (λ taken. continued taken step) (signed-again (whole microsecond n) rest (whole-fits n fits))
    ∙ ap (λ (b : Bool). only_if b (give (truncated microsecond n)) rest) (fits_i64-true (truncated microsecond n) (truncated-fits n fits))
