-- A compressed block in a part of bytes is one of all the bytes.
use Rattle.std.proofs.Common.{◌≡◌, ℕ, ◌+◌, ◌-◌, ◌<◌, ◌≤◌, List, length, take, drop, Option, None, true, false, refl, ap, sym, ◌∙◌, arith, length-take, length-drop, drop-drop, leb}
use Rattle.std.proofs.lemmas.Bool.{leb-true, leb-false, false≢true}
use Rattle.std.proofs.lemmas.List.{take-take, drop-take}
use Rattle.std.specs.Int.{Width, byte_len, w8, w32, from_le_bytes}
use Rattle.std.specs.Prelude.{Some, is_some, nat_le, ◌&&◌, ◌==◌}
use Rattle.owned_bytes.specs.Front.{◌>>=◌, provided, number_at}
use Rattle.sstable_format.specs.Refused.{is_compressed_at}
use Rattle.sstable_format.proofs.Ends.{number_at-front, bytes_at-none}

pub number_at-short : (w : Width) (bytes : List ℕ) → length bytes < byte_len w → number_at w bytes ≡ None
number_at-short w bytes short = ap (λ o. o >>= (λ (piece : List ℕ × List ℕ). Some (from_le_bytes w piece.0, piece.1))) (bytes_at-none (byte_len w) bytes short)

-- what is looked for behind a length
abbrev compressed : ℕ × List ℕ → Option (Unit {0})
compressed len = number_at w8 len.1 >>= (λ (compress : ℕ × List ℕ). provided (nat_le 2 len.0 && (compress.0 == 1)))

pub compressed-within : (place : ℕ) (bytes : List ℕ) → is_compressed_at place bytes ≡ true → place < length bytes
compressed-within place bytes is =
    elim (leb (length bytes) place) as (λ t. leb (length bytes) place ≡ t → place < length bytes) [
      | true ↦ λ e.
          let past : length bytes ≤ place = leb-true _ _ e in
          absurd (false≢true (sym (ap (λ o. is_some (o >>= compressed)) (number_at-short w32 (drop place bytes) (omega (arith, past, length-drop place bytes)))) ∙ is))
      | false ↦ λ e. leb-false _ _ e
    ] refl

pub compressed-drop : (start place : ℕ) (bytes : List ℕ) → is_compressed_at place (drop start bytes) ≡ true → is_compressed_at (start + place) bytes ≡ true
compressed-drop start place bytes is = sym (ap (λ (l : List ℕ). is_some (number_at w32 l >>= compressed)) (drop-drop place start bytes)) ∙ is

-- a length and a compress byte take five bytes
five : (bytes : List ℕ) → is_some (number_at w32 bytes >>= compressed) ≡ true → 5 ≤ length bytes
five bytes is =
    elim (leb 5 (length bytes)) as (λ t. leb 5 (length bytes) ≡ t → 5 ≤ length bytes) [
      | true ↦ λ e. leb-true _ _ e
      | false ↦ λ e. let less : length bytes < 5 = leb-false _ _ e in absurd (false≢true (sym (too_few less) ∙ is))
    ] refl
  where
    too_few : length bytes < 5 → is_some (number_at w32 bytes >>= compressed) ≡ false
    too_few less =
        elim (leb 4 (length bytes)) as (λ t. leb 4 (length bytes) ≡ t → is_some (number_at w32 bytes >>= compressed) ≡ false) [
          | true ↦ λ e.
              let four : 4 ≤ length bytes = leb-true _ _ e in
              ap (λ o. is_some (o >>= compressed)) (number_at-front w32 bytes four)
              ∙ ap (λ o. is_some (o >>= (λ (compress : ℕ × List ℕ). provided (nat_le 2 (from_le_bytes w32 (take 4 bytes)) && (compress.0 == 1))))) (number_at-short w8 (drop 4 bytes) (omega (arith, less, length-drop 4 bytes)))
          | false ↦ λ e. ap (λ o. is_some (o >>= compressed)) (number_at-short w32 bytes (leb-false _ _ e))
        ] refl

-- what they are
told_by : (bytes : List ℕ) → 5 ≤ length bytes
    → is_some (number_at w32 bytes >>= compressed) ≡ is_some (provided (nat_le 2 (from_le_bytes w32 (take 4 bytes)) && (from_le_bytes w8 (take 1 (drop 4 bytes)) == 1)))
told_by bytes long =
    ap (λ o. is_some (o >>= compressed)) (number_at-front w32 bytes (omega (arith, long)))
    ∙ ap (λ o. is_some (o >>= (λ (compress : ℕ × List ℕ). provided (nat_le 2 (from_le_bytes w32 (take 4 bytes)) && (compress.0 == 1))))) (number_at-front w8 (drop 4 bytes) (omega (arith, long, length-drop 4 bytes)))

at_front : (n : ℕ) (bytes : List ℕ) → is_some (number_at w32 (take n bytes) >>= compressed) ≡ true → is_some (number_at w32 bytes >>= compressed) ≡ true
at_front n bytes is =
    let long = five (take n bytes) is in
    let len = length-take n bytes in
    let split : n ≡ 4 + (n - 4) = omega (arith, long, len) in
    let first : take 4 (take n bytes) ≡ take 4 bytes = take-take 4 n bytes (omega (arith, long, len)) in
    let second : take 1 (drop 4 (take n bytes)) ≡ take 1 (drop 4 bytes) =
    ap (λ m. take 1 (drop 4 (take m bytes))) split ∙ ap (take 1) (drop-take 4 (n - 4) bytes) ∙ take-take 1 (n - 4) (drop 4 bytes) (omega (arith, long, len)) in
    told_by bytes (omega (arith, long, len))
    ∙ (λ i. is_some (provided (nat_le 2 (from_le_bytes w32 (sym first i)) && (from_le_bytes w8 (sym second i) == 1))))
    ∙ sym (told_by (take n bytes) long) ∙ is

pub compressed-take : (n place : ℕ) (bytes : List ℕ) → is_compressed_at place (take n bytes) ≡ true → is_compressed_at place bytes ≡ true
compressed-take n place bytes is =
    let within = compressed-within place (take n bytes) is in
    let split : n ≡ place + (n - place) = omega (arith, within, length-take n bytes) in
    let cut : drop place (take n bytes) ≡ take (n - place) (drop place bytes) = ap (λ m. drop place (take m bytes)) split ∙ drop-take place (n - place) bytes in
    at_front (n - place) (drop place bytes) (sym (ap (λ (l : List ℕ). is_some (number_at w32 l >>= compressed)) cut) ∙ is)

pub compressed-part : (n start place : ℕ) (bytes : List ℕ) → is_compressed_at place (take n (drop start bytes)) ≡ true → is_compressed_at (start + place) bytes ≡ true
compressed-part n start place bytes is = compressed-drop start place bytes (compressed-take n place (drop start bytes) is)
