-- How far a count may have risen.
use Rattle.std.proofs.Common.{◌≡◌, ℕ, ◌+◌, ◌<◌, ◌≤◌, ◌^◌, Bool, true, false, refl, arith, ltb}
use Rattle.std.proofs.lemmas.Bool.{ltb-true, ltb-false}
use Rattle.std.proofs.Math.Pow.{pow_mono}

pub at-most : (k n steps : ℕ) → n < 2 ^ (k + 1) → 2 ^ steps ≤ n → steps ≤ k
at-most k n steps few is = by (ltb k steps) refl
  where
    by : (t : Bool) → ltb k steps ≡ t → steps ≤ k
    by true e =
        let past : k < steps = ltb-true _ _ e in
        let more : 2 ^ (k + 1) ≤ 2 ^ steps = pow_mono {i = k + 1} {j = steps} (omega (arith, past)) in
        absurd (omega (arith, more, few, is))
    by false e = ltb-false _ _ e
