-- Where numbers are packed.
use Rattle.std.proofs.Common.{◌≡◌, ℕ, ◌+◌, ◌-◌, ◌*◌, ◌/◌, ◌%◌, ◌^◌, ◌<◌, ◌≤◌, List, ◌++◌, take, drop, refl, ap, sym, ◌∙◌, arith, drop-drop, leb, true, false}
use Rattle.std.proofs.Math.Nat.{add-mul, mul_assoc, mul-le-mul_right, div-add-mod, pow-le-pow_right}
use Rattle.std.proofs.Math.Seq.{take-append_seam, drop-append_seam}
use Rattle.std.proofs.lemmas.Nat.{mul-le}
use Rattle.std.proofs.lemmas.Bool.{leb-true, leb-false}
use Rattle.std.specs.Prelude.{slice_range}
use Rattle.tantivy_bitpacker.specs.Packed.{bytes_for, unpacked_from}
use Rattle.tantivy_bitpacker.proofs.Unpacking.{unpacked_from-add, unpacked_from-drop, unpacked_from-take, length-unpacked_from}
use Rattle.tantivy_bitpacker.proofs.Digits.{HasDigits, HasDigits-from_leading, num_bits_few}
use Rattle.index_file.specs.Header.{width_of}

digits-few : (n digits : ℕ) → HasDigits n digits → n < 2 ^ 32 → digits ≤ 32
digits-few n digits has small =
    elim (leb 33 digits) as (λ t. leb 33 digits ≡ t → digits ≤ 32) [
      | true ↦ λ e. let power : 2 ^ 33 ≤ 2 ^ digits = pow-le-pow_right (omega arith) (leb-true _ _ e) in absurd (omega (arith, power, has.below, small))
      | false ↦ λ e. let less = leb-false _ _ e in omega (arith, less)
    ] refl

-- numbers of documents take at most 32 bits
pub width_of-few : (documents : ℕ) → documents < 2 ^ 32 → width_of documents ≤ 32
width_of-few documents small =
    let has = HasDigits-from_leading (documents - 1) (omega (arith, small)) in
    let low = digits-few (documents - 1) _ has (omega (arith, small)) in
    omega (arith, low, num_bits_few (documents - 1) _ has (omega (arith, low)))

-- (8 q + r + c) w
spread : (q rest w : ℕ) → (8 * q + rest) * w ≡ 8 * (q * w) + rest * w
spread q rest w = add-mul (8 * q) rest w ∙ ap (λ n. n + rest * w) (mul_assoc 8 q w)

bits-split : (start count w : ℕ) → (start + count) * w ≡ 8 * (start / 8 * w) + (start % 8 + count) * w
bits-split start count w =
    let whole : start + count ≡ 8 * (start / 8) + (start % 8 + count) = omega (arith, div-add-mod start 8) in
    ap (λ n. n * w) whole ∙ spread (start / 8) (start % 8 + count) w

-- the group's bytes and those from it on
pub bytes-split : (start count w : ℕ) → start / 8 * w + bytes_for ((start % 8 + count) * w) ≡ bytes_for ((start + count) * w)
bytes-split start count w = let bits = bits-split start count w in omega (arith, bits)

pub bytes-few : (start count w : ℕ) → w ≤ 32 → bytes_for ((start % 8 + count) * w) ≤ 28 + bytes_for (count * w)
bytes-few start count w few =
    let low : start % 8 ≤ 7 = omega arith in
    let product = mul-le (start % 8) w 7 32 low few in
    omega (arith, product, add-mul (start % 8) count w)

pub bytes-within : (n m w : ℕ) → n ≤ m → bytes_for (n * w) ≤ bytes_for (m * w)
bytes-within n m w le = let products = mul-le-mul_right w le in omega (arith, products)

-- a part of unpacked numbers
pub part-unpacked : (first count w start n : ℕ) (bytes : List ℕ) → start + n ≤ count
    → take n (drop start (unpacked_from first count w bytes)) ≡ unpacked_from (first + start) n w bytes
part-unpacked first count w start n bytes within =
    let rest : ℕ = count - start - n in
    let whole : count ≡ start + (n + rest) = omega (arith, within) in
    let front : List ℕ = unpacked_from first start w bytes in
    let middle : List ℕ = unpacked_from (first + start) n w bytes in
    let behind : List ℕ = unpacked_from (first + start + n) rest w bytes in
    let parts : unpacked_from first count w bytes ≡ front ++ (middle ++ behind) =
    ap (λ m. unpacked_from first m w bytes) whole ∙ unpacked_from-add first start (n + rest) w bytes ∙ ap (λ xs. front ++ xs) (unpacked_from-add (first + start) n rest w bytes) in
    ap (λ xs. take n (drop start xs)) parts
    ∙ ap (λ m. take n (drop m (front ++ (middle ++ behind)))) (sym (length-unpacked_from first start w bytes))
    ∙ ap (take n) (drop-append_seam front (middle ++ behind))
    ∙ ap (λ m. take m (middle ++ behind)) (sym (length-unpacked_from (first + start) n w bytes))
    ∙ take-append_seam middle behind

-- the numbers in the part of the file that was read are those of the packed bytes
pub part-read : (file part : List ℕ) (all plen start count w : ℕ) → bytes_for (all * w) ≡ plen → start + count ≤ all
    → part ≡ slice_range file (12 + start / 8 * w) (12 + start / 8 * w + bytes_for ((start % 8 + count) * w))
    → unpacked_from (start % 8) count w part ≡ take count (drop start (unpacked_from 0 all w (take plen (drop 12 file))))
part-read file part all plen start count w is_plen within is_part =
    let len : ℕ = bytes_for ((start % 8 + count) * w) in
    let from : ℕ = 12 + start / 8 * w in
    let length_is : 12 + start / 8 * w + len - (12 + start / 8 * w) ≡ len = omega arith in
    let place : 8 * (start / 8) + start % 8 ≡ start = omega (arith, div-add-mod start 8) in
    let bits = mul-le-mul_right w within in
    ap (λ (l : List ℕ). unpacked_from (start % 8) count w l) (is_part ∙ ap (λ n. take n (drop from file)) length_is)
    ∙ unpacked_from-take (start % 8) count w len (drop from file) (omega arith)
    ∙ ap (λ (l : List ℕ). unpacked_from (start % 8) count w l) (sym (drop-drop (start / 8 * w) 12 file))
    ∙ unpacked_from-drop (start / 8) (start % 8) count w (drop 12 file)
    ∙ ap (λ n. unpacked_from n count w (drop 12 file)) place
    ∙ sym (unpacked_from-take start count w plen (drop 12 file) (omega (arith, bits, is_plen)))
    ∙ sym (part-unpacked 0 all w start count (take plen (drop 12 file)) within ∙ ap (λ n. unpacked_from n count w (take plen (drop 12 file))) (omega arith))

-- ---- the part of the file that is read

pub record PartFits (start count w : ℕ) (size : ℕ) : Type 0 where
  pub from : start / 8 * w ≤ size
  pub whole : 12 + start / 8 * w + bytes_for ((start % 8 + count) * w) ≤ size

pub part-fits : (start count w size : ℕ) → 12 + bytes_for ((start + count) * w) ≤ size → PartFits start count w size
part-fits start count w size room = let split = bytes-split start count w in record { from = omega (arith, split, room); whole = omega (arith, split, room) }
