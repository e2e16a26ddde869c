-- Eight bytes read as one number.
use Rattle.std.proofs.Common.{◌≡◌, ℕ, zero, suc, ◌+◌, ◌-◌, ◌*◌, ◌%◌, ◌^◌, ◌<◌, ◌≤◌, List, [], ◌∷◌, ◌++◌, length, take, drop, get_or, replicate, Fits, w8, refl, ap, sym, ◌∙◌, arith, length-append, get_or-drop}
use Rattle.std.proofs.lemmas.List.{take_rest, length-take-le, take_all, length-replicate}
use Rattle.std.specs.Int.{from_le_bytes, w64}
use Rattle.std.specs.Array.{IsFirstChunk}
use Rattle.tantivy_bitpacker.specs.Packed.{as_number}
use Rattle.tantivy_bitpacker.proofs.Bytes.{as_number-take, as_number-append, from_le_bytes_is}

-- a list of bytes
pub record AreBytes (bytes : List ℕ) : Type 0 where
  pub each : (i : ℕ) → get_or bytes i 0 < 256

pub AreBytes-from_fits : (bytes : List ℕ) → ((i : ℕ) → Fits w8 (get_or bytes i 0)) → AreBytes bytes
AreBytes-from_fits bytes fit = record { each = λ i. (fit i).fits }

pub AreBytes-drop : (n : ℕ) (bytes : List ℕ) → AreBytes bytes → AreBytes (drop n bytes)
AreBytes-drop n bytes are = record { each = λ i. rw get_or-drop (are.each (n + i)) }

take_byte : (n : ℕ) (bytes : List ℕ) → ((i : ℕ) → get_or bytes i 0 < 256) → (i : ℕ) → get_or (take n bytes) i 0 < 256
take_byte zero bytes each i = omega arith
take_byte (suc n) [] each i = omega arith
take_byte (suc n) (b ∷ bytes) each zero = each 0
take_byte (suc n) (b ∷ bytes) each (suc i) = take_byte n bytes (λ k. each (suc k)) i

pub AreBytes-take : (n : ℕ) (bytes : List ℕ) → AreBytes bytes → AreBytes (take n bytes)
AreBytes-take n bytes are = record { each = take_byte n bytes are.each }

zero_byte : (n i : ℕ) → get_or (replicate n 0) i 0 < 256
zero_byte zero i = omega arith
zero_byte (suc n) zero = omega arith
zero_byte (suc n) (suc i) = zero_byte n i

padded_byte : (bytes : List ℕ) (n : ℕ) → ((i : ℕ) → get_or bytes i 0 < 256) → (i : ℕ) → get_or (bytes ++ replicate n 0) i 0 < 256
padded_byte [] n each i = zero_byte n i
padded_byte (b ∷ bytes) n each zero = each 0
padded_byte (b ∷ bytes) n each (suc i) = padded_byte bytes n (λ k. each (suc k)) i

-- the first eight bytes from a place on
pub first_word : (bytes word : List ℕ) (place : ℕ) → AreBytes bytes → IsFirstChunk (take (length bytes - place) (drop place bytes)) word 8 → from_le_bytes w64 word ≡ as_number (drop place bytes) % 2 ^ 64
first_word bytes word place are first =
    let rest : take (length bytes - place) (drop place bytes) ≡ drop place bytes = take_rest bytes place in
    let enough : 8 ≤ length (drop place bytes) = rw rest at first.enough in
    let same : word ≡ take 8 (drop place bytes) = first.same ∙ ap (take 8) rest in
    ap (from_le_bytes w64) same ∙ from_le_bytes_is (take 8 (drop place bytes)) (length-take-le 8 (drop place bytes) enough) (AreBytes-take 8 (drop place bytes) (AreBytes-drop place bytes are)).each ∙ as_number-take 8 (drop place bytes)

as_number-zeros : (n : ℕ) → as_number (replicate n 0) ≡ 0
unfolding as_number
as_number-zeros zero = refl
as_number-zeros (suc n) = omega (arith, as_number-zeros n)

-- fewer than eight bytes, and then zeros
pub padded_word : (bytes word : List ℕ) → AreBytes bytes → length bytes < 8 → word ≡ bytes ++ replicate (8 - length bytes) 0 → from_le_bytes w64 word ≡ as_number bytes % 2 ^ 64
padded_word bytes word are few is =
    let zeros : List ℕ = replicate (8 - length bytes) 0 in
    let long : length (bytes ++ zeros) ≡ 8 = omega (arith, length-append bytes zeros, length-replicate {A = ℕ} (8 - length bytes) 0) in
    ap (from_le_bytes w64) is ∙ from_le_bytes_is (bytes ++ zeros) long (padded_byte bytes (8 - length bytes) are.each) ∙ as_number-append bytes zeros
    ∙ ap (λ m. as_number bytes + 2 ^ (8 * length bytes) * m) (as_number-zeros (8 - length bytes)) ∙ omega arith ∙ ap as_number (sym (take_all 8 bytes (omega arith))) ∙ as_number-take 8 bytes
