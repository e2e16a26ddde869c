-- Laws of packing: the values' bits in order, in whole bytes, are read again.
use Rattle.std.proofs.Common.{◌≡◌, ℕ, suc, ◌+◌, ◌*◌, ◌/◌, ◌%◌, ◌^◌, ◌<◌, ◌≤◌, List, [], ◌∷◌, ◌++◌, length, take, drop, get_or, ap, sym, ◌∙◌, arith, take-append-drop, drop-cons, length-take-le, ext_get_or}
use Rattle.std.proofs.lemmas.Nat.{pow-add, mul-add-lt}
use Rattle.std.proofs.lemmas.List.{map-append}
use Rattle.std.proofs.lemmas.List.Elements.{All-head, All-tail, All-map, All-take, All-get_or}
use Rattle.std.proofs.Math.Nat.{mul-add, mul_assoc, div-eq_of_lt, mod-eq_of_lt}
use Rattle.tantivy_bitpacker.specs.Packed.{bits_from, bytes_for, with_value, total_width, joined, bits_of, packed_pieces, at_width, packed, unpacked_from, FitWidths, FitWidth}
use Rattle.tantivy_bitpacker.proofs.Powers.{field_within, div-add_high, mod-add_high}
use Rattle.tantivy_bitpacker.proofs.Bytes.{as_number-bytes_of, length-bytes_of}
use Rattle.tantivy_bitpacker.proofs.Unpacking.{bits_from-append, length-unpacked_from, get_or-unpacked_from}

pub total_width-append : (xs ys : List (ℕ × ℕ)) → total_width (xs ++ ys) ≡ total_width xs + total_width ys
unfolding total_width
total_width-append [] ys = omega arith
total_width-append ((value, width) ∷ xs) ys = omega (arith, total_width-append xs ys)

pub joined-append : (xs ys : List (ℕ × ℕ)) → joined (xs ++ ys) ≡ joined xs + 2 ^ total_width xs * joined ys
unfolding joined total_width
joined-append [] ys = omega arith
joined-append ((value, width) ∷ xs) ys =
    let e : 2 ^ (width + total_width xs) * joined ys ≡ 2 ^ width * (2 ^ total_width xs * joined ys) = ap (λ m. m * joined ys) (pow-add 2 width (total_width xs)) ∙ mul_assoc (2 ^ width) (2 ^ total_width xs) (joined ys) in
    let f : 2 ^ width * (joined xs + 2 ^ total_width xs * joined ys) ≡ 2 ^ width * joined xs + 2 ^ width * (2 ^ total_width xs * joined ys) = mul-add (2 ^ width) (joined xs) (2 ^ total_width xs * joined ys) in
    let g : 2 ^ width * joined (xs ++ ys) ≡ 2 ^ width * (joined xs + 2 ^ total_width xs * joined ys) = ap (λ m. 2 ^ width * m) (joined-append xs ys) in
    omega arith

-- one more value
pub bits_of-push : (pieces : List (ℕ × ℕ)) (value width : ℕ) → bits_of (pieces ++ (value, width) ∷ []) ≡ with_value (bits_of pieces) value width
unfolding joined total_width
bits_of-push pieces value width =
    let number : joined (pieces ++ (value, width) ∷ []) ≡ joined pieces + 2 ^ total_width pieces * value = joined-append pieces ((value, width) ∷ []) ∙ ap (λ m. joined pieces + 2 ^ total_width pieces * m) (omega arith) in
    let count : total_width (pieces ++ (value, width) ∷ []) ≡ total_width pieces + width = omega (arith, total_width-append pieces ((value, width) ∷ [])) in
    cc

-- no bit is left over
pub joined-lt : (pieces : List (ℕ × ℕ)) → FitWidths pieces → joined pieces < 2 ^ total_width pieces
unfolding joined total_width
joined-lt [] fit = omega arith
joined-lt ((value, width) ∷ pieces) fit =
    let here : value < 2 ^ width = All-head (λ (piece : ℕ × ℕ). piece.0 < 2 ^ piece.1) (value, width) pieces fit in
    let rest : joined pieces < 2 ^ total_width pieces = joined-lt pieces (All-tail (λ (piece : ℕ × ℕ). piece.0 < 2 ^ piece.1) (value, width) pieces fit) in
    omega (arith, mul-add-lt (joined pieces) (2 ^ width) value (2 ^ total_width pieces) rest here, pow-add 2 width (total_width pieces))

-- the number of the bits from a value's place on
joined-from : (front back : List (ℕ × ℕ)) (value width : ℕ) → FitWidths front → joined (front ++ (value, width) ∷ back) / 2 ^ total_width front ≡ value + 2 ^ width * joined back
unfolding joined
joined-from front back value width fit =
    ap (λ m. m / 2 ^ total_width front) (joined-append front ((value, width) ∷ back)) ∙ div-add_high (joined front) (total_width front) (value + 2 ^ width * joined back)
    ∙ ap (λ m. m + (value + 2 ^ width * joined back)) (div-eq_of_lt (joined-lt front fit)) ∙ omega arith

-- a value is read again at its place, whatever stands beside it
pub bits_from-packed : (front back : List (ℕ × ℕ)) (value width : ℕ) (rest : List ℕ) → FitWidths front → value < 2 ^ width
    → bits_from (total_width front) width (packed_pieces (front ++ (value, width) ∷ back) ++ rest) ≡ value
unfolding bits_from total_width
bits_from-packed front back value width rest fit small =
    let pieces : List (ℕ × ℕ) = front ++ (value, width) ∷ back in
    let total : total_width pieces ≡ total_width front + (width + total_width back) = total_width-append front ((value, width) ∷ back) in
    let bytes : ℕ = bytes_for (total_width pieces) in
    let within : total_width front + width ≤ 8 * bytes = omega arith in
    let long : length (packed_pieces pieces) ≡ bytes = length-bytes_of bytes (joined pieces) in
    bits_from-append (total_width front) width (packed_pieces pieces) rest (rw long within)
    ∙ ap (λ m. m / 2 ^ total_width front % 2 ^ width) (as_number-bytes_of bytes (joined pieces))
    ∙ field_within (joined pieces) (8 * bytes) (total_width front) width within
    ∙ ap (λ m. m % 2 ^ width) (joined-from front back value width fit)
    ∙ mod-add_high value width (joined back) ∙ mod-eq_of_lt small

-- ---- values of one width

pub total_width-at_width : (width : ℕ) (values : List ℕ) → total_width (at_width width values) ≡ length values * width
unfolding total_width
total_width-at_width width [] = omega arith
total_width-at_width width (value ∷ values) = omega (arith, total_width-at_width width values)

pub FitWidths-at_width : (width : ℕ) (values : List ℕ) → FitWidth width values → FitWidths (at_width width values)
FitWidths-at_width width values fit = All-map (λ (piece : ℕ × ℕ). piece.0 < 2 ^ piece.1) (λ value. (value, width)) values fit

pub length-packed : (width : ℕ) (values : List ℕ) → length (packed width values) ≡ bytes_for (length values * width)
length-packed width values = length-bytes_of (bytes_for (total_width (at_width width values))) (joined (at_width width values)) ∙ ap bytes_for (total_width-at_width width values)

-- the value at a place is read again, whatever follows the bytes
pub bits_from-packed_at : (width : ℕ) (values rest : List ℕ) (i : ℕ) → FitWidth width values → i < length values → bits_from (i * width) width (packed width values ++ rest) ≡ get_or values i 0
bits_from-packed_at width values rest i fit below =
    let value : ℕ = get_or values i 0 in
    let front : List ℕ = take i values in
    let back : List ℕ = drop (suc i) values in
    let split : values ≡ front ++ value ∷ back = sym (take-append-drop i values) ∙ ap (λ xs. front ++ xs) (drop-cons values i 0 below) in
    let pieces : at_width width values ≡ at_width width front ++ (value, width) ∷ at_width width back = ap (at_width width) split ∙ map-append (λ v. (v, width)) front (value ∷ back) in
    let place : total_width (at_width width front) ≡ i * width = total_width-at_width width front ∙ ap (λ n. n * width) (length-take-le i values (omega arith)) in
    ap (λ p. bits_from p width (packed width values ++ rest)) (sym place)
    ∙ ap (λ ps. bits_from (total_width (at_width width front)) width (packed_pieces ps ++ rest)) pieces
    ∙ bits_from-packed (at_width width front) (at_width width back) value width rest (FitWidths-at_width width front (All-take (λ v. v < 2 ^ width) i values fit)) (All-get_or (λ v. v < 2 ^ width) values i 0 below fit)

-- values of one width are read again, whatever follows the bytes
pub unpacked-packed : (width : ℕ) (values rest : List ℕ) → FitWidth width values → unpacked_from 0 (length values) width (packed width values ++ rest) ≡ values
unpacked-packed width values rest fit =
    let bytes : List ℕ = packed width values ++ rest in
    let long : length (unpacked_from 0 (length values) width bytes) ≡ length values = length-unpacked_from 0 (length values) width bytes in
    ext_get_or 0 (unpacked_from 0 (length values) width bytes) values long
    (λ i below. let within : i < length values = omega arith in
    get_or-unpacked_from 0 (length values) width bytes i 0 within ∙ ap (λ n. bits_from (n * width) width bytes) (omega arith) ∙ bits_from-packed_at width values rest i fit within)

-- ---- a cut at a whole byte
