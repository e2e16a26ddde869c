-- A run of writes: the sink has gained the full words of the values' bits, and the packer holds the bits after them.
use Rattle.std.proofs.Common.{◌≡◌, ℕ, ◌+◌, ◌*◌, ◌/◌, ◌%◌, ◌^◌, List, [], ◌∷◌, ◌++◌, Option, Some, None, refl, ap, sym, subst, ◌∙◌, arith, append_assoc, append-nil}
use Rattle.std.proofs.lemmas.Nat.{pow-add, shr-shr}
use Rattle.std.proofs.Math.Nat.{mul_assoc}
use Rattle.std.specs.Io.KnownBytes.{Appends}
use Rattle.tantivy_bitpacker.specs.Packed.{bytes_of, bytes_for, Bits, no_bits, with_value, full_words, open_word, whole_bytes, total_width, joined, bits_of, packed_pieces, HasPacked}
use Rattle.tantivy_bitpacker.proofs.Powers.{div-add_high}
use Rattle.tantivy_bitpacker.proofs.Bytes.{bytes_of-append, bytes_of-add_high}
use Rattle.tantivy_bitpacker.proofs.Packing.{bits_of-push}

pub Appends-none : (sink : Option (List ℕ)) → Appends sink sink []
Appends-none None = tt
Appends-none (Some bytes) = sym (append-nil bytes)

pub Appends-then : (a b c : Option (List ℕ)) (xs ys : List ℕ) → Appends a b xs → Appends b c ys → Appends a c (xs ++ ys)
Appends-then None b c xs ys first second = tt
Appends-then (Some zs) None c xs ys first second = absurd first
Appends-then (Some zs) (Some bs) None xs ys first second = absurd second
Appends-then (Some zs) (Some bs) (Some cs) xs ys first second = second ∙ ap (λ (l : List ℕ). l ++ ys) first ∙ append_assoc zs xs ys

-- ---- full words, the open word, and one more value

pub same_bits : (a b : Bits) → a.number ≡ b.number → a.count ≡ b.count → a ≡ b
same_bits a b number count = let e : a ≡ record { number = b.number; count = b.count } = ap (λ n. record { number = n; count = a.count }) number ∙ ap (λ n. record { number = b.number; count = n }) count in e

-- a value above the full words
value_above : (count value : ℕ) → 2 ^ count * value ≡ 2 ^ (64 * (count / 64)) * (2 ^ (count % 64) * value)
value_above count value =
    let e : count ≡ 64 * (count / 64) + count % 64 = omega arith in
    ap (λ m. 2 ^ m * value) e ∙ ap (λ m. m * value) (pow-add 2 (64 * (count / 64)) (count % 64)) ∙ mul_assoc (2 ^ (64 * (count / 64))) (2 ^ (count % 64)) value

-- the bits after the full words
number_after : (number count value : ℕ) → (number + 2 ^ count * value) / 2 ^ (64 * (count / 64)) ≡ number / 2 ^ (64 * (count / 64)) + 2 ^ (count % 64) * value
number_after number count value = ap (λ m. (number + m) / 2 ^ (64 * (count / 64))) (value_above count value) ∙ div-add_high number (64 * (count / 64)) (2 ^ (count % 64) * value)

full_words-numbers : (number count value width : ℕ) → bytes_of (8 * ((count + width) / 64)) (number + 2 ^ count * value)
    ≡ bytes_of (8 * (count / 64)) number ++ bytes_of (8 * ((count % 64 + width) / 64)) (number / 2 ^ (64 * (count / 64)) + 2 ^ (count % 64) * value)
full_words-numbers number count value width =
    let k : ℕ = 8 * (count / 64) in
    let more : ℕ = 8 * ((count % 64 + width) / 64) in
    let words : 8 * ((count + width) / 64) ≡ k + more = omega arith in
    let below : 64 * (count / 64) ≡ 8 * k = omega arith in
    let low : bytes_of k (number + 2 ^ count * value) ≡ bytes_of k number =
    ap (λ m. bytes_of k (number + m)) (value_above count value ∙ ap (λ m. 2 ^ m * (2 ^ (count % 64) * value)) below) ∙ bytes_of-add_high k number (2 ^ (count % 64) * value) in
    let high : (number + 2 ^ count * value) / 2 ^ (8 * k) ≡ number / 2 ^ (64 * (count / 64)) + 2 ^ (count % 64) * value =
    ap (λ m. (number + 2 ^ count * value) / 2 ^ m) (sym below) ∙ number_after number count value in
    ap (λ n. bytes_of n (number + 2 ^ count * value)) words ∙ bytes_of-append k more (number + 2 ^ count * value)
    ∙ ap (λ bs. bs ++ bytes_of more ((number + 2 ^ count * value) / 2 ^ (8 * k))) low ∙ ap (λ m. bytes_of k number ++ bytes_of more m) high

full_words-with_value : (bits : Bits) (value width : ℕ) → full_words (with_value bits value width) ≡ full_words bits ++ full_words (with_value (open_word bits) value width)
full_words-with_value bits value width = full_words-numbers bits.number bits.count value width

open_word-number : (number count value width : ℕ) → (number + 2 ^ count * value) / 2 ^ (64 * ((count + width) / 64))
    ≡ (number / 2 ^ (64 * (count / 64)) + 2 ^ (count % 64) * value) / 2 ^ (64 * ((count % 64 + width) / 64))
open_word-number number count value width =
    let e : 64 * ((count + width) / 64) ≡ 64 * (count / 64) + 64 * ((count % 64 + width) / 64) = omega arith in
    ap (λ m. (number + 2 ^ count * value) / 2 ^ m) e ∙ sym (shr-shr (number + 2 ^ count * value) (64 * (count / 64)) (64 * ((count % 64 + width) / 64)))
    ∙ ap (λ m. m / 2 ^ (64 * ((count % 64 + width) / 64))) (number_after number count value)

open_word-with_value : (bits : Bits) (value width : ℕ) → open_word (with_value bits value width) ≡ open_word (with_value (open_word bits) value width)
open_word-with_value bits value width =
    let number = open_word-number bits.number bits.count value width in
    let count : (bits.count + width) % 64 ≡ (bits.count % 64 + width) % 64 = omega arith in
    same_bits (open_word (with_value bits value width)) (open_word (with_value (open_word bits) value width)) number count

whole_bytes-open_word : (bits : Bits) → whole_bytes bits ≡ full_words bits ++ whole_bytes (open_word bits)
whole_bytes-open_word bits =
    let k : ℕ = 8 * (bits.count / 64) in
    let count : bytes_for bits.count ≡ k + bytes_for (bits.count % 64) = omega arith in
    let below : 8 * k ≡ 64 * (bits.count / 64) = omega arith in
    ap (λ n. bytes_of n bits.number) count ∙ bytes_of-append k (bytes_for (bits.count % 64)) bits.number ∙ ap (λ m. full_words bits ++ bytes_of (bytes_for (bits.count % 64)) (bits.number / 2 ^ m)) below

-- ---- the run

pub HasPacked-none : (sink : Option (List ℕ)) → HasPacked [] no_bits sink sink
unfolding joined total_width bytes_of
HasPacked-none sink = record { appended = Appends-none sink; rest = refl }

pub HasPacked-push : (pieces : List (ℕ × ℕ)) (held next : Bits) (before now then : Option (List ℕ)) (value width : ℕ) → HasPacked pieces held before now
    → Appends now then (full_words (with_value held value width)) → next ≡ open_word (with_value held value width) → HasPacked (pieces ++ (value, width) ∷ []) next before then
HasPacked-push pieces held next before now then value width has gained is =
    let bits : bits_of (pieces ++ (value, width) ∷ []) ≡ with_value (bits_of pieces) value width = bits_of-push pieces value width in
    let words : full_words (bits_of pieces) ++ full_words (with_value held value width) ≡ full_words (bits_of (pieces ++ (value, width) ∷ [])) =
    ap (λ b. full_words (bits_of pieces) ++ full_words (with_value b value width)) has.rest ∙ sym (full_words-with_value (bits_of pieces) value width) ∙ ap full_words (sym bits) in
    record {
      appended = subst (λ bs. Appends before then bs) words (Appends-then before now then (full_words (bits_of pieces)) (full_words (with_value held value width)) has.appended gained);
      rest = is ∙ ap (λ b. open_word (with_value b value width)) has.rest ∙ sym (open_word-with_value (bits_of pieces) value width) ∙ ap open_word (sym bits);
    }

pub HasPacked-close : (pieces : List (ℕ × ℕ)) (held : Bits) (before now then : Option (List ℕ)) → HasPacked pieces held before now → Appends now then (whole_bytes held) → Appends before then (packed_pieces pieces)
HasPacked-close pieces held before now then has gained =
    let bytes : full_words (bits_of pieces) ++ whole_bytes held ≡ packed_pieces pieces =
    ap (λ b. full_words (bits_of pieces) ++ whole_bytes b) has.rest ∙ sym (whole_bytes-open_word (bits_of pieces)) in
    subst (λ bs. Appends before then bs) bytes (Appends-then before now then (full_words (bits_of pieces)) (whole_bytes held) has.appended gained)
