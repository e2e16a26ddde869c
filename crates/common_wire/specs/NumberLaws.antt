-- A reader of contracts may skip this file: the laws of numbers of a fixed width.
use Rattle.std.proofs.Common.{◌≡◌, ℕ, ◌+◌, ◌*◌, ◌/◌, ◌%◌, ◌^◌, ◌<◌, ℤ, List, ◌++◌, length, Bool, true, false, refl, ap, sym, ◌∙◌, arith}
use Rattle.std.specs.Prelude.{nat_lt, ◌==◌, FitsSigned}
use Rattle.std.specs.Int.{Width, w16, w32, w64, w128, byte_len, to_le_bytes, from_le_bytes, cast_signed, cast_unsigned}
use Rattle.std.proofs.lemmas.Nat.{from_le_bytes-to_le_bytes_2, from_le_bytes-to_le_bytes_4, from_le_bytes-to_le_bytes_8}
use Rattle.std.proofs.Math.Nat.{div-div-eq-div-mul}
use Rattle.std.proofs.Math.Facts.{Fits-of_z}
use Rattle.std.proofs.lemmas.Int.{to_z-of_z}
use Rattle.common_wire.specs.Taking.{Value, continued, give, byte, bytes_of}
use Rattle.common_wire.specs.Wire.{number, flag, flag_bytes, signed}
use Rattle.common_wire.specs.Serialized.{IsTaking}
use Rattle.common_wire.specs.TakingLaws.{IsTaking-give, IsTaking-byte, IsTaking-bytes_of, IsTaking-then, IsTaking-only_if, bytes_of-again}

pub IsTaking-number : (w : Width) → IsTaking (number w)
unfolding number
IsTaking-number w = IsTaking-then (bytes_of (byte_len w)) _ (IsTaking-bytes_of (byte_len w)) (λ piece. IsTaking-give (from_le_bytes w piece))

pub IsTaking-signed : IsTaking signed
unfolding signed
IsTaking-signed = IsTaking-then (number w64) _ (IsTaking-number w64) (λ n. IsTaking-give (cast_signed w64 n))

pub IsTaking-flag : IsTaking flag
unfolding flag
IsTaking-flag = IsTaking-then byte _ IsTaking-byte (λ b. IsTaking-only_if (nat_lt b 2) _ (IsTaking-give (b == 1)))

-- what was written is taken again, whatever follows
number-again : (w : Width) (n : ℕ) (rest : List ℕ) → length (to_le_bytes w n) ≡ byte_len w → from_le_bytes w (to_le_bytes w n) ≡ n → number w (to_le_bytes w n ++ rest) ≡ Value n rest
unfolding number
number-again w n rest long again =
    ap (λ m. continued (bytes_of m (to_le_bytes w n ++ rest)) (λ piece. give (from_le_bytes w piece))) (sym long)
    ∙ ap (λ taken. continued taken (λ piece. give (from_le_bytes w piece))) (bytes_of-again (to_le_bytes w n) rest) ∙ ap (λ v. Value v rest) again

pub u16-again : (n : ℕ) (rest : List ℕ) → n < 2 ^ 16 → number w16 (to_le_bytes w16 n ++ rest) ≡ Value n rest
u16-again n rest h = number-again w16 n rest refl (from_le_bytes-to_le_bytes_2 n h)

pub u32-again : (n : ℕ) (rest : List ℕ) → n < 2 ^ 32 → number w32 (to_le_bytes w32 n ++ rest) ≡ Value n rest
u32-again n rest h = number-again w32 n rest refl (from_le_bytes-to_le_bytes_4 n h)

pub u64-again : (n : ℕ) (rest : List ℕ) → n < 2 ^ 64 → number w64 (to_le_bytes w64 n ++ rest) ≡ Value n rest
u64-again n rest h = number-again w64 n rest refl (from_le_bytes-to_le_bytes_8 n h)

pub flag-again : (b : Bool) (rest : List ℕ) → flag (flag_bytes b ++ rest) ≡ Value b rest
unfolding flag
flag-again true rest = refl
flag-again false rest = refl

pub signed-again : (z : ℤ) (rest : List ℕ) → FitsSigned w64 z → signed (to_le_bytes w64 (cast_unsigned w64 z) ++ rest) ≡ Value z rest
unfolding signed
signed-again z rest fits =
    ap (λ taken. continued taken (λ n. give (cast_signed w64 n))) (u64-again (cast_unsigned w64 z) rest (unsigned_fits z fits)) ∙ ap (λ v. Value v rest) (to_z-of_z w64 z fits)
  where
    unsigned_fits : (z : ℤ) → FitsSigned w64 z → cast_unsigned w64 z < 2 ^ 64
    unsigned_fits z fits = (Fits-of_z fits).fits

byte_and_rest : (n p : ℕ) → n / p ≡ n / p % 256 + n / (p * 256) * 256
byte_and_rest n p = omega (arith, div-div-eq-div-mul n p 256)

joined_16 : (a0 a1 a2 a3 a4 a5 a6 a7 a8 a9 a10 a11 a12 a13 a14 a15 p0 p1 p2 p3 p4 p5 p6 p7 p8 p9 p10 p11 p12 p13 p14 p15 : ℕ)
    → p0 ≡ a0 + p1 * 256 → p1 ≡ a1 + p2 * 256 → p2 ≡ a2 + p3 * 256 → p3 ≡ a3 + p4 * 256 → p4 ≡ a4 + p5 * 256 → p5 ≡ a5 + p6 * 256 → p6 ≡ a6 + p7 * 256 → p7 ≡ a7 + p8 * 256
    → p8 ≡ a8 + p9 * 256 → p9 ≡ a9 + p10 * 256 → p10 ≡ a10 + p11 * 256 → p11 ≡ a11 + p12 * 256 → p12 ≡ a12 + p13 * 256 → p13 ≡ a13 + p14 * 256 → p14 ≡ a14 + p15 * 256 → p15 ≡ a15
    → a0 + a1 * 256 + a2 * 256 ^ 2 + a3 * 256 ^ 3 + a4 * 256 ^ 4 + a5 * 256 ^ 5 + a6 * 256 ^ 6 + a7 * 256 ^ 7 + a8 * 256 ^ 8 + a9 * 256 ^ 9 + a10 * 256 ^ 10 + a11 * 256 ^ 11 + a12 * 256 ^ 12 + a13 * 256 ^ 13 + a14 * 256 ^ 14 + a15 * 256 ^ 15 ≡ p0
joined_16 a0 a1 a2 a3 a4 a5 a6 a7 a8 a9 a10 a11 a12 a13 a14 a15 p0 p1 p2 p3 p4 p5 p6 p7 p8 p9 p10 p11 p12 p13 p14 p15 h0 h1 h2 h3 h4 h5 h6 h7 h8 h9 h10 h11 h12 h13 h14 h15 = omega arith

from_le_bytes-to_le_bytes_16 : (n : ℕ) → n < 2 ^ 128 → from_le_bytes w128 (to_le_bytes w128 n) ≡ n
from_le_bytes-to_le_bytes_16 n fits =
    let low : n ≡ n % 256 + n / 256 * 256 = omega arith in
    let high : n / 256 ^ 15 ≡ n / 256 ^ 15 % 256 = omega arith in
    joined_16 _ _ _ _ _ _ _ _ _ _ _ _ _ _ _ _ n _ _ _ _ _ _ _ _ _ _ _ _ _ _ _ low (byte_and_rest n (256 ^ 1)) (byte_and_rest n (256 ^ 2)) (byte_and_rest n (256 ^ 3)) (byte_and_rest n (256 ^ 4)) (byte_and_rest n (256 ^ 5)) (byte_and_rest n (256 ^ 6)) (byte_and_rest n (256 ^ 7))
    (byte_and_rest n (256 ^ 8)) (byte_and_rest n (256 ^ 9)) (byte_and_rest n (256 ^ 10)) (byte_and_rest n (256 ^ 11)) (byte_and_rest n (256 ^ 12)) (byte_and_rest n (256 ^ 13)) (byte_and_rest n (256 ^ 14)) high

pub u128-again : (n : ℕ) (rest : List ℕ) → n < 2 ^ 128 → number w128 (to_le_bytes w128 n ++ rest) ≡ Value n rest
u128-again n rest h = number-again w128 n rest refl (from_le_bytes-to_le_bytes_16 n h)
