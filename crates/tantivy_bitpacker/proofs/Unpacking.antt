-- Laws of the bits that stand in bytes: what a part of the bytes tells of the whole.
use Rattle.std.proofs.Common.{◌≡◌, ℕ, zero, suc, ◌+◌, ◌-◌, ◌*◌, ◌/◌, ◌%◌, ◌^◌, ◌<◌, ◌≤◌, List, [], ◌∷◌, ◌++◌, length, take, drop, get_or, refl, ap, ◌∙◌, arith}
use Rattle.std.proofs.lemmas.Nat.{shr-shr, pow_pos}
use Rattle.std.proofs.Math.Nat.{mod-lt, pow-le-pow_right}
use Rattle.tantivy_bitpacker.specs.Packed.{as_number, bits_from, unpacked_from}
use Rattle.tantivy_bitpacker.proofs.Powers.{field_within, field-add_high}
use Rattle.tantivy_bitpacker.proofs.Bytes.{as_number-take, as_number-drop, as_number-append}

pub bits_from-lt : (place width : ℕ) (bytes : List ℕ) → bits_from place width bytes < 2 ^ width
unfolding bits_from
bits_from-lt place width bytes = mod-lt (as_number bytes / 2 ^ place) (pow_pos width)

-- and fits wherever numbers of its width do
pub bits_from-fits : (place width most value : ℕ) (bytes : List ℕ) → value ≡ bits_from place width bytes → width ≤ most → value < 2 ^ most
bits_from-fits place width most value bytes is fit =
    let le : 2 ^ width ≤ 2 ^ most = pow-le-pow_right (omega arith) fit in
    omega (arith, is, bits_from-lt place width bytes)

-- bits within the first bytes
pub bits_from-take : (place width n : ℕ) (bytes : List ℕ) → place + width ≤ 8 * n → bits_from place width (take n bytes) ≡ bits_from place width bytes
unfolding bits_from
bits_from-take place width n bytes within = ap (λ m. m / 2 ^ place % 2 ^ width) (as_number-take n bytes) ∙ field_within (as_number bytes) (8 * n) place width within

-- bits behind the first bytes
pub bits_from-drop : (place width n : ℕ) (bytes : List ℕ) → bits_from place width (drop n bytes) ≡ bits_from (8 * n + place) width bytes
unfolding bits_from
bits_from-drop place width n bytes = ap (λ m. m / 2 ^ place % 2 ^ width) (as_number-drop n bytes) ∙ ap (λ m. m % 2 ^ width) (shr-shr (as_number bytes) (8 * n) place)

-- what follows the bytes changes nothing
pub bits_from-append : (place width : ℕ) (bytes rest : List ℕ) → place + width ≤ 8 * length bytes → bits_from place width (bytes ++ rest) ≡ bits_from place width bytes
unfolding bits_from
bits_from-append place width bytes rest within =
    ap (λ m. m / 2 ^ place % 2 ^ width) (as_number-append bytes rest) ∙ field-add_high (as_number bytes) (8 * length bytes) (as_number rest) place width within

-- bits within the eight bytes from a place on
pub bits_from-word : (place width : ℕ) (bytes : List ℕ) → place % 8 + width ≤ 64 → as_number (drop (place / 8) bytes) % 2 ^ 64 / 2 ^ (place % 8) % 2 ^ width ≡ bits_from place width bytes
unfolding bits_from
bits_from-word place width bytes within =
    let split : 8 * (place / 8) + place % 8 ≡ place = omega arith in
    field_within (as_number (drop (place / 8) bytes)) 64 (place % 8) width within ∙ bits_from-drop (place % 8) width (place / 8) bytes ∙ ap (λ p. bits_from p width bytes) split

-- a number of a width of at most 56 bits, or of 64, lies within the eight bytes from its first on
pub spread-within : (i width : ℕ) → (56 < width → width ≡ 64) → i * width % 8 + width ≤ 64
spread-within i width allowed = let whole : width ≡ 64 → i * width % 8 ≡ 0 = λ e. rw e (omega arith) in grind arith

-- ---- numbers of one width

pub length-unpacked_from : (first count width : ℕ) (bytes : List ℕ) → length (unpacked_from first count width bytes) ≡ count
unfolding unpacked_from
length-unpacked_from first zero width bytes = refl
length-unpacked_from first (suc count) width bytes = ap suc (length-unpacked_from (first + 1) count width bytes)

pub get_or-unpacked_from : (first count width : ℕ) (bytes : List ℕ) (i d : ℕ) → i < count → get_or (unpacked_from first count width bytes) i d ≡ bits_from ((first + i) * width) width bytes
unfolding unpacked_from
get_or-unpacked_from first zero width bytes i d below = absurd (omega arith)
get_or-unpacked_from first (suc count) width bytes zero d below = ap (λ n. bits_from (n * width) width bytes) (omega arith)
get_or-unpacked_from first (suc count) width bytes (suc i) d below =
    let e : first + 1 + i ≡ first + suc i = omega arith in
    get_or-unpacked_from (first + 1) count width bytes i d (omega arith) ∙ ap (λ n. bits_from (n * width) width bytes) e

-- so many, and then others
pub unpacked_from-add : (first m n width : ℕ) (bytes : List ℕ) → unpacked_from first (m + n) width bytes ≡ unpacked_from first m width bytes ++ unpacked_from (first + m) n width bytes
unfolding unpacked_from
unpacked_from-add first zero n width bytes =
    let count : 0 + n ≡ n = omega arith in
    let start : first ≡ first + 0 = omega arith in
    ap (λ k. unpacked_from first k width bytes) count ∙ ap (λ k. unpacked_from k n width bytes) start
unpacked_from-add first (suc m) n width bytes =
    let count : suc m + n ≡ suc (m + n) = omega arith in
    let start : first + 1 + m ≡ first + suc m = omega arith in
    ap (λ k. unpacked_from first k width bytes) count ∙ ap (λ k. bits_from (first * width) width bytes ∷ k) (unpacked_from-add (first + 1) m n width bytes)
    ∙ ap (λ k. bits_from (first * width) width bytes ∷ (unpacked_from (first + 1) m width bytes ++ unpacked_from k n width bytes)) start

-- one more
pub unpacked_from-push : (first n width : ℕ) (bytes : List ℕ) → unpacked_from first (n + 1) width bytes ≡ unpacked_from first n width bytes ++ bits_from ((first + n) * width) width bytes ∷ []
unfolding unpacked_from
unpacked_from-push first n width bytes = unpacked_from-add first n 1 width bytes

-- the first and the others
pub unpacked_from-step : (first end width : ℕ) (bytes : List ℕ) → first < end → unpacked_from first (end - first) width bytes ≡ bits_from (first * width) width bytes ∷ unpacked_from (first + 1) (end - (first + 1)) width bytes
unfolding unpacked_from
unpacked_from-step first end width bytes below = let count : end - first ≡ suc (end - (first + 1)) = omega arith in ap (λ n. unpacked_from first n width bytes) count

pub unpacked_from-none : (first end width : ℕ) (bytes : List ℕ) → end ≤ first → unpacked_from first (end - first) width bytes ≡ []
unfolding unpacked_from
unpacked_from-none first end width bytes past = let count : end - first ≡ 0 = omega arith in ap (λ n. unpacked_from first n width bytes) count

-- numbers within the first bytes
pub unpacked_from-take : (first count width n : ℕ) (bytes : List ℕ) → (first + count) * width ≤ 8 * n → unpacked_from first count width (take n bytes) ≡ unpacked_from first count width bytes
unfolding unpacked_from
unpacked_from-take first zero width n bytes within = refl
unpacked_from-take first (suc count) width n bytes within =
    let sum : first + 1 + count ≡ first + suc count = omega arith in
    let here : first * width + width ≤ 8 * n = omega arith in
    ap (λ v. v ∷ unpacked_from (first + 1) count width (take n bytes)) (bits_from-take (first * width) width n bytes here)
    ∙ ap (λ vs. bits_from (first * width) width bytes ∷ vs) (unpacked_from-take (first + 1) count width n bytes (rw sum within))

-- what follows the bytes changes nothing
pub unpacked_from-append : (first count width : ℕ) (bytes rest : List ℕ) → (first + count) * width ≤ 8 * length bytes → unpacked_from first count width (bytes ++ rest) ≡ unpacked_from first count width bytes
unfolding unpacked_from
unpacked_from-append first zero width bytes rest within = refl
unpacked_from-append first (suc count) width bytes rest within =
    let sum : first + 1 + count ≡ first + suc count = omega arith in
    let here : first * width + width ≤ 8 * length bytes = omega arith in
    ap (λ v. v ∷ unpacked_from (first + 1) count width (bytes ++ rest)) (bits_from-append (first * width) width bytes rest here)
    ∙ ap (λ vs. bits_from (first * width) width bytes ∷ vs) (unpacked_from-append (first + 1) count width bytes rest (rw sum within))

-- the bytes cut at a multiple of eight numbers
pub unpacked_from-drop : (eights first count width : ℕ) (bytes : List ℕ) → unpacked_from first count width (drop (eights * width) bytes) ≡ unpacked_from (8 * eights + first) count width bytes
unfolding unpacked_from
unpacked_from-drop eights first zero width bytes = refl
unpacked_from-drop eights first (suc count) width bytes =
    let start : 8 * eights + (first + 1) ≡ 8 * eights + first + 1 = omega arith in
    let place : 8 * (eights * width) + first * width ≡ (8 * eights + first) * width = omega arith in
    ap (λ v. v ∷ unpacked_from (first + 1) count width (drop (eights * width) bytes)) (bits_from-drop (first * width) width (eights * width) bytes ∙ ap (λ p. bits_from p width bytes) place)
    ∙ ap (λ vs. bits_from ((8 * eights + first) * width) width bytes ∷ vs) (unpacked_from-drop eights (first + 1) count width bytes ∙ ap (λ k. unpacked_from k count width bytes) start)
