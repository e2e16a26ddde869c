-- The number of binary digits.
use Rattle.std.proofs.Common.{◌≡◌, ℕ, zero, suc, ◌+◌, ◌-◌, ◌*◌, ◌/◌, ◌^◌, ◌<◌, ◌≤◌, refl, arith}
use Rattle.std.specs.Int.Count.{count_leading_zeros}
use Rattle.std.proofs.lemmas.Nat.{pow_pos, leading_length}
use Rattle.std.proofs.lemmas.Bool.Decides.{nat_tests}
use Rattle.std.proofs.Math.Nat.{pow-suc}
use Rattle.tantivy_bitpacker.specs.Packed.{digits_upto, num_bits}

-- the digits are as many as the least power above the number tells
pub digits_upto_is : (most n digits : ℕ) → digits ≤ most → n < 2 ^ digits → 2 ^ digits ≤ 2 * n + 1 → digits_upto most n ≡ digits
unfolding digits_upto
digits_upto_is zero n digits le above below = omega arith
digits_upto_is (suc most) zero zero le above below = refl
digits_upto_is (suc most) zero (suc digits) le above below = absurd (omega (arith, pow-suc 2 digits, pow_pos digits))
digits_upto_is (suc most) (suc n) zero le above below = absurd (omega arith)
digits_upto_is (suc most) (suc n) (suc digits) le above below =
    omega (arith, digits_upto_is most (suc n / 2) digits (omega arith) (omega (arith, pow-suc 2 digits)) (omega (arith, pow-suc 2 digits)))

-- a number of at most 64 digits, of which leading zeros tell how many
pub record HasDigits (n digits : ℕ) : Type 0 where
  pub within : digits ≤ 64
  pub above : n < 2 ^ digits
  pub below : 2 ^ digits ≤ 2 * n + 1

pub HasDigits-from_leading : (n : ℕ) → n < 2 ^ 64 → HasDigits n (64 - count_leading_zeros 64 n)
HasDigits-from_leading n small =
    let found = leading_length 64 n small in
    let is : 64 - count_leading_zeros 64 n ≡ found.0 = omega (arith, found.1) in
    rw is (record { within = omega (arith, found.1); above = found.2; below = found.3 })

pub num_bits_few : (n digits : ℕ) → HasDigits n digits → digits ≤ 56 → num_bits n ≡ digits
unfolding num_bits
num_bits_few n digits has few = let e = digits_upto_is 64 n digits has.within has.above has.below in grind (arith, nat_tests)

pub num_bits_many : (n digits : ℕ) → HasDigits n digits → 56 < digits → num_bits n ≡ 64
unfolding num_bits
num_bits_many n digits has many = let e = digits_upto_is 64 n digits has.within has.above has.below in grind (arith, nat_tests)

pub HasDigits-least : (n digits : ℕ) → HasDigits n digits → 0 < digits → 2 ^ (digits - 1) ≤ n
HasDigits-least n zero has some = absurd (omega arith)
HasDigits-least n (suc digits) has some = let e : suc digits - 1 ≡ digits = omega arith in rw e (omega (arith, pow-suc 2 digits, has.below))
