-- Bytes as one number, and the bytes of a number.
use Rattle.std.proofs.Common.{◌≡◌, ℕ, zero, suc, ◌+◌, ◌*◌, ◌/◌, ◌%◌, ◌^◌, ◌<◌, List, [], ◌∷◌, ◌++◌, length, take, drop, get_or, refl, ap, sym, ◌∙◌, arith}
use Rattle.std.proofs.lemmas.Nat.{pow_pos, pow-add, mod-pow-add}
use Rattle.std.proofs.lemmas.List.{take_all}
use Rattle.std.proofs.Math.Nat.{mod-eq_of_lt, div-eq_of_lt, mul_assoc, div-div-eq-div-mul, div-add-mod}
use Rattle.std.specs.Int.{to_le_bytes, from_le_bytes, w64}
use Rattle.tantivy_bitpacker.specs.Packed.{as_number, bytes_of}
use Rattle.tantivy_bitpacker.proofs.Powers.{mod-add_high, div-add_high}

pub pow-byte : (n : ℕ) → 2 ^ (8 * suc n) ≡ 256 * 2 ^ (8 * n)
pow-byte n = let e : 8 * suc n ≡ 8 + 8 * n = omega arith in ap (λ m. 2 ^ m) e ∙ pow-add 2 8 (8 * n)

-- the lowest byte, and the others
mod_next : (x n : ℕ) → x % 2 ^ (8 * suc n) ≡ x / 256 % 2 ^ (8 * n) * 256 + x % 256
mod_next x n = let e : 8 * suc n ≡ 8 * n + 8 = omega arith in ap (λ m. x % 2 ^ m) e ∙ mod-pow-add x (8 * n) 8

-- ---- bytes as one number

pub as_number-lt : (bytes : List ℕ) → as_number bytes < 2 ^ (8 * length bytes)
unfolding as_number
as_number-lt [] = omega arith
as_number-lt (b ∷ bytes) = let below : b % 256 < 256 = omega arith in omega (arith, pow-byte (length bytes), as_number-lt bytes)

pub as_number-append : (xs ys : List ℕ) → as_number (xs ++ ys) ≡ as_number xs + 2 ^ (8 * length xs) * as_number ys
unfolding as_number
as_number-append [] ys = omega arith
as_number-append (x ∷ xs) ys =
    let e : 2 ^ (8 * suc (length xs)) * as_number ys ≡ 256 * (2 ^ (8 * length xs) * as_number ys) = ap (λ m. m * as_number ys) (pow-byte (length xs)) ∙ mul_assoc 256 (2 ^ (8 * length xs)) (as_number ys) in
    omega (arith, as_number-append xs ys)

-- the first bytes are the low part of the number
pub as_number-take : (n : ℕ) (bytes : List ℕ) → as_number (take n bytes) ≡ as_number bytes % 2 ^ (8 * n)
unfolding as_number
as_number-take zero bytes = omega arith
as_number-take (suc n) [] = sym (mod-eq_of_lt (pow_pos (8 * suc n)))
as_number-take (suc n) (b ∷ bytes) =
    let high : (b % 256 + 256 * as_number bytes) / 256 ≡ as_number bytes = omega arith in
    let low : (b % 256 + 256 * as_number bytes) % 256 ≡ b % 256 = omega arith in
    let split : (b % 256 + 256 * as_number bytes) % 2 ^ (8 * suc n) ≡ (b % 256 + 256 * as_number bytes) / 256 % 2 ^ (8 * n) * 256 + (b % 256 + 256 * as_number bytes) % 256 = mod_next (b % 256 + 256 * as_number bytes) n in
    let field : (b % 256 + 256 * as_number bytes) / 256 % 2 ^ (8 * n) ≡ as_number bytes % 2 ^ (8 * n) = ap (λ m. m % 2 ^ (8 * n)) high in
    omega (arith, as_number-take n bytes)

-- the bytes from a place on are its high part
pub as_number-drop : (n : ℕ) (bytes : List ℕ) → as_number (drop n bytes) ≡ as_number bytes / 2 ^ (8 * n)
unfolding as_number
as_number-drop zero bytes = omega arith
as_number-drop (suc n) [] = sym (div-eq_of_lt (pow_pos (8 * suc n)))
as_number-drop (suc n) (b ∷ bytes) =
    let low : (b % 256 + 256 * as_number bytes) / 256 ≡ as_number bytes = omega arith in
    as_number-drop n bytes ∙ ap (λ m. m / 2 ^ (8 * n)) (sym low) ∙ div-div-eq-div-mul (b % 256 + 256 * as_number bytes) 256 (2 ^ (8 * n)) ∙ ap (λ m. (b % 256 + 256 * as_number bytes) / m) (sym (pow-byte n))

-- ---- the bytes of a number

pub length-bytes_of : (n x : ℕ) → length (bytes_of n x) ≡ n
unfolding bytes_of
length-bytes_of zero x = refl
length-bytes_of (suc n) x = ap suc (length-bytes_of n (x / 256))

pub as_number-bytes_of : (n x : ℕ) → as_number (bytes_of n x) ≡ x % 2 ^ (8 * n)
unfolding as_number bytes_of
as_number-bytes_of zero x = omega arith
as_number-bytes_of (suc n) x = omega (arith, mod_next x n, as_number-bytes_of n (x / 256))

-- the bytes depend on the low bits alone
pub bytes_of-add_high : (n x y : ℕ) → bytes_of n (x + 2 ^ (8 * n) * y) ≡ bytes_of n x
unfolding bytes_of
bytes_of-add_high zero x y = refl
bytes_of-add_high (suc n) x y =
    let e : x + 2 ^ (8 * suc n) * y ≡ x + 256 * (2 ^ (8 * n) * y) = ap (λ m. x + m * y) (pow-byte n) ∙ ap (λ m. x + m) (mul_assoc 256 (2 ^ (8 * n)) y) in
    let first : (x + 256 * (2 ^ (8 * n) * y)) % 256 ≡ x % 256 = mod-add_high x 8 (2 ^ (8 * n) * y) in
    let rest : (x + 256 * (2 ^ (8 * n) * y)) / 256 ≡ x / 256 + 2 ^ (8 * n) * y = div-add_high x 8 (2 ^ (8 * n) * y) in
    ap (λ m. m % 256 ∷ bytes_of n (m / 256)) e ∙ ap (λ m. m ∷ bytes_of n ((x + 256 * (2 ^ (8 * n) * y)) / 256)) first ∙ ap (λ m. x % 256 ∷ bytes_of n m) rest ∙ ap (λ m. x % 256 ∷ m) (bytes_of-add_high n (x / 256) y)

pub bytes_of-mod : (n x : ℕ) → bytes_of n (x % 2 ^ (8 * n)) ≡ bytes_of n x
bytes_of-mod n x = sym (bytes_of-add_high n (x % 2 ^ (8 * n)) (x / 2 ^ (8 * n))) ∙ ap (bytes_of n) (omega (arith, div-add-mod x (2 ^ (8 * n))))

pub bytes_of-append : (m n x : ℕ) → bytes_of (m + n) x ≡ bytes_of m x ++ bytes_of n (x / 2 ^ (8 * m))
unfolding bytes_of
bytes_of-append zero n x = let e : x ≡ x / 2 ^ (8 * 0) = omega arith in ap (λ k. bytes_of k x) (omega arith) ∙ ap (bytes_of n) e
bytes_of-append (suc m) n x =
    let e : suc m + n ≡ suc (m + n) = omega arith in
    ap (λ k. bytes_of k x) e ∙ ap (λ k. x % 256 ∷ k) (bytes_of-append m n (x / 256))
    ∙ ap (λ k. x % 256 ∷ (bytes_of m (x / 256) ++ bytes_of n k)) (div-div-eq-div-mul x 256 (2 ^ (8 * m)) ∙ ap (λ k. x / k) (sym (pow-byte m)))

-- one more byte
as_number-take_more : (bytes : List ℕ) → ((i : ℕ) → get_or bytes i 0 < 256) → (n : ℕ) → as_number (take (suc n) bytes) ≡ as_number (take n bytes) + 2 ^ (8 * n) * get_or bytes n 0
unfolding as_number
as_number-take_more [] each zero = refl
as_number-take_more [] each (suc n) = omega arith
as_number-take_more (b ∷ bytes) each zero = let below : b < 256 = each 0 in omega arith
as_number-take_more (b ∷ bytes) each (suc n) =
    let e : 2 ^ (8 * suc n) * get_or bytes n 0 ≡ 256 * (2 ^ (8 * n) * get_or bytes n 0) = ap (λ m. m * get_or bytes n 0) (pow-byte n) ∙ mul_assoc 256 (2 ^ (8 * n)) (get_or bytes n 0) in
    omega (arith, as_number-take_more bytes (λ i. each (suc i)) n)

-- the number that eight bytes read
pub from_le_bytes_is : (bytes : List ℕ) → length bytes ≡ 8 → ((i : ℕ) → get_or bytes i 0 < 256) → from_le_bytes w64 bytes ≡ as_number bytes
unfolding as_number
from_le_bytes_is bytes long each =
    let none : as_number (take 0 bytes) ≡ 0 = refl in
    let whole : as_number (take 8 bytes) ≡ as_number bytes = ap as_number (take_all 8 bytes (omega arith)) in
    omega (arith, as_number-take_more bytes each 0, as_number-take_more bytes each 1, as_number-take_more bytes each 2, as_number-take_more bytes each 3, as_number-take_more bytes each 4, as_number-take_more bytes each 5, as_number-take_more bytes each 6, as_number-take_more bytes each 7)

-- the eight bytes that a number writes
pub to_le_bytes_is : (x : ℕ) → to_le_bytes w64 x ≡ bytes_of 8 x
unfolding bytes_of
to_le_bytes_is x = simp div-div-eq-div-mul
