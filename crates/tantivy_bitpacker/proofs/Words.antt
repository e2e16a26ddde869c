-- One write: the word that it fills, and the bits that it leaves.
use Rattle.std.proofs.Common.{◌≡◌, ℕ, ◌+◌, ◌-◌, ◌*◌, ◌/◌, ◌%◌, ◌^◌, ◌<◌, ◌≤◌, [], ◌++◌, take, ap, sym, ◌∙◌, arith}
use Rattle.std.proofs.lemmas.Nat.{pow-add, mul-add-lt, pow_below, shr_below, or_shifted, or_comm, shr-shr, mod-pow-add, shl-shr}
use Rattle.std.proofs.lemmas.List.{take_at}
use Rattle.std.specs.Int.{to_le_bytes, w64}
use Rattle.std.specs.Prelude.{bit_or}
use Rattle.std.proofs.Math.Nat.{mod-eq_of_lt, div-eq_of_lt, mul-mod_left}
use Rattle.tantivy_bitpacker.specs.Packed.{bytes_of, with_value, full_words, open_word, whole_bytes}
use Rattle.tantivy_bitpacker.proofs.Bytes.{bytes_of-mod, bytes_of-append, length-bytes_of, to_le_bytes_is}
use Rattle.tantivy_bitpacker.proofs.Powers.{div-add_high, mod-add_high}
use Rattle.tantivy_bitpacker.proofs.Runs.{same_bits}

-- the bits of the open word and then of a value
pub with_value-lt : (number count value width : ℕ) → number < 2 ^ count → value < 2 ^ width → number + 2 ^ count * value < 2 ^ (count + width)
with_value-lt number count value width below fits = omega (arith, mul-add-lt value (2 ^ count) number (2 ^ width) fits below, pow-add 2 count width)

-- a write that fills no word
pub record Kept (number count value width word : ℕ) : Type 0 where
  pub small : word < 2 ^ (count + width)
  pub words : full_words (with_value (record { number = number; count = count }) value width) ≡ []
  pub rest : record { number = word; count = count + width } ≡ open_word (with_value (record { number = number; count = count }) value width)

pub Kept-holds : (number count value width word : ℕ) → number < 2 ^ count → value < 2 ^ width → count + width < 64 → word ≡ (number + 2 ^ count * value) % 2 ^ 64 → Kept number count value width word
unfolding bytes_of
Kept-holds number count value width word below fits few is =
    let all : number + 2 ^ count * value < 2 ^ (count + width) = with_value-lt number count value width below fits in
    let shorter : 2 ^ (count + width) < 2 ^ 64 = pow_below (count + width) 64 few in
    let same : word ≡ number + 2 ^ count * value = is ∙ mod-eq_of_lt (omega arith) in
    let none : (count + width) / 64 ≡ 0 = omega arith in
    let one : number + 2 ^ count * value ≡ (number + 2 ^ count * value) / 2 ^ (64 * 0) = omega arith in
    record {
      small = omega arith;
      words = ap (λ n. bytes_of (8 * n) (number + 2 ^ count * value)) none;
      rest = same_bits (record { number = word; count = count + width }) (open_word (with_value (record { number = number; count = count }) value width))
          (same ∙ one ∙ ap (λ n. (number + 2 ^ count * value) / 2 ^ (64 * n)) (sym none)) (omega arith);
    }

-- a write that fills a word
pub record Filled (number count value width word high : ℕ) : Type 0 where
  pub small : high < 2 ^ (count + width - 64)
  pub words : full_words (with_value (record { number = number; count = count }) value width) ≡ bytes_of 8 word
  pub rest : record { number = high; count = count + width - 64 } ≡ open_word (with_value (record { number = number; count = count }) value width)

pub Filled-holds : (number count value width word high : ℕ) → number < 2 ^ count → value < 2 ^ width → count < 64 → width ≤ 64 → 64 ≤ count + width
    → word ≡ (number + 2 ^ count * value) % 2 ^ 64 → high ≡ (number + 2 ^ count * value) / 2 ^ 64 → Filled number count value width word high
Filled-holds number count value width word high below fits room wide many is above =
    let all : number + 2 ^ count * value < 2 ^ (count + width) = with_value-lt number count value width below fits in
    let split : count + width ≡ (count + width - 64) + 64 = omega arith in
    let one : (count + width) / 64 ≡ 1 = omega arith in
    let high_small : (number + 2 ^ count * value) / 2 ^ 64 < 2 ^ (count + width - 64) = shr_below (number + 2 ^ count * value) (count + width - 64) 64 (rw split at all) in
    record {
      small = omega arith;
      words = ap (λ n. bytes_of (8 * n) (number + 2 ^ count * value)) one ∙ sym (bytes_of-mod 8 (number + 2 ^ count * value)) ∙ ap (bytes_of 8) (sym is);
      rest = same_bits (record { number = high; count = count + width - 64 }) (open_word (with_value (record { number = number; count = count }) value width))
          (above ∙ ap (λ n. (number + 2 ^ count * value) / 2 ^ (64 * n)) (sym one)) (omega arith);
    }

-- ---- the end of a run

pub whole_bytes-none : (number count : ℕ) → count ≡ 0 → whole_bytes (record { number = number; count = count }) ≡ []
unfolding bytes_of
whole_bytes-none number count none = ap (λ n. bytes_of ((n + 7) / 8) number) none

-- the first bytes of a word
pub word_bytes-take : (n number : ℕ) → n ≤ 8 → take n (to_le_bytes w64 number) ≡ bytes_of n number
word_bytes-take n number few =
    let split : 8 ≡ n + (8 - n) = omega arith in
    let all : to_le_bytes w64 number ≡ bytes_of n number ++ bytes_of (8 - n) (number / 2 ^ (8 * n)) = to_le_bytes_is number ∙ ap (λ m. bytes_of m number) split ∙ bytes_of-append n (8 - n) number in
    ap (take n) all ∙ take_at (bytes_of n number) (bytes_of (8 - n) (number / 2 ^ (8 * n))) n (length-bytes_of n number)

-- ---- shifts and joins of words

-- a value shifted above so many bits, in a word
shl_word : (value n count : ℕ) → value * 2 ^ count % 2 ^ (n + count) ≡ value % 2 ^ n * 2 ^ count
shl_word value n count =
    mod-pow-add (value * 2 ^ count) n count ∙ ap (λ m. m % 2 ^ n * 2 ^ count + value * 2 ^ count % 2 ^ count) (shl-shr value count)
    ∙ ap (λ m. value % 2 ^ n * 2 ^ count + m) (mul-mod_left value (2 ^ count)) ∙ omega arith

-- a value shifted above the held bits, and joined with them
pub low_word_is : (number count value : ℕ) → count < 64 → number < 2 ^ count → bit_or number (value * 2 ^ count % 2 ^ 64) ≡ (number + 2 ^ count * value) % 2 ^ 64
low_word_is number count value room below =
    let n : ℕ = 64 - count in
    let split : 64 ≡ n + count = omega arith in
    let shifted : value * 2 ^ count % 2 ^ 64 ≡ value % 2 ^ n * 2 ^ count = ap (λ m. value * 2 ^ count % 2 ^ m) split ∙ shl_word value n count in
    let high : (number + 2 ^ count * value) / 2 ^ count ≡ value = div-add_high number count value ∙ ap (λ m. m + value) (div-eq_of_lt below) ∙ omega arith in
    let low : (number + 2 ^ count * value) % 2 ^ count ≡ number = mod-add_high number count value ∙ mod-eq_of_lt below in
    let joined_word : (number + 2 ^ count * value) % 2 ^ (n + count) ≡ value % 2 ^ n * 2 ^ count + number =
    mod-pow-add (number + 2 ^ count * value) n count ∙ ap (λ m. m % 2 ^ n * 2 ^ count + (number + 2 ^ count * value) % 2 ^ count) high ∙ ap (λ m. value % 2 ^ n * 2 ^ count + m) low in
    ap (bit_or number) shifted ∙ or_comm number (value % 2 ^ n * 2 ^ count) ∙ or_shifted (value % 2 ^ n) count number below ∙ sym joined_word ∙ ap (λ m. (number + 2 ^ count * value) % 2 ^ m) (sym split)

-- what of it stands above the word
pub high_word_is : (number count value : ℕ) → 0 < count → count < 64 → number < 2 ^ count → value / 2 ^ (64 - count) ≡ (number + 2 ^ count * value) / 2 ^ 64
high_word_is number count value some room below =
    let split : 64 ≡ count + (64 - count) = omega arith in
    let low : (number + 2 ^ count * value) / 2 ^ count ≡ value = div-add_high number count value ∙ ap (λ m. m + value) (div-eq_of_lt below) ∙ omega arith in
    ap (λ m. m / 2 ^ (64 - count)) (sym low) ∙ shr-shr (number + 2 ^ count * value) count (64 - count) ∙ ap (λ m. (number + 2 ^ count * value) / 2 ^ m) (sym split)

pub high_word_none : (number count value : ℕ) → count ≡ 0 → number < 2 ^ count → value < 2 ^ 64 → 0 ≡ (number + 2 ^ count * value) / 2 ^ 64
high_word_none number count value none below small =
    let one : 2 ^ count ≡ 1 = ap (λ m. 2 ^ m) none in
    let all : number + 2 ^ count * value ≡ value = ap (λ m. number + m * value) one ∙ omega arith in
    sym (div-eq_of_lt (rw all small))
