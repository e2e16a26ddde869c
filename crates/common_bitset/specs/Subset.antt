-- A set of numbers below a bound, and how it lies in words of 64 and in bytes.
use Rattle.std.specs.Prelude.{◌≡◌, ℕ, ◌+◌, ◌-◌, ◌*◌, ◌/◌, ◌%◌, ◌^◌, ◌<◌, ◌≤◌, ◌≢◌, min, Bool, true, List, ◌++◌, length, take, drop, slice_index_or, flat_map, refl}
use Rattle.std.specs.Int.{w32, w64, div_ceil, to_le_bytes, from_le_bytes}
use Rattle.std.specs.List.{range_with_len}
use Rattle.std.specs.Coded.{Coded, code_by, coded×, coded_ℕ}
use Rattle.std.specs.FinSet.{code, empty, contains, intersection}
use Rattle.common_bitset.specs.Numbers.{Numbers, below_where, IsBelow}
use Rattle.common_bitset.specs.Words.{elements_of, word_of}

-- a set of numbers below max_value
pub record Subset : Type 0 where
  pub elements : Numbers
  pub max_value : ℕ

abbrev pub subset_code : Coded Subset
subset_code = code_by (Numbers × ℕ) (coded× (code coded_ℕ) coded_ℕ) (λ s. (s.elements, s.max_value)) (λ p. record { elements = p.0; max_value = p.1 }) (λ _. refl)

-- its elements are below its bound, which is a `u32`
pub record IsProper (s : Subset) : Type 0 where
  pub within : IsBelow s.max_value s.elements
  pub small : s.max_value < 2 ^ 32

-- ---- in words

-- element e is element e % 64 of word e / 64
abbrev pub is_in : (ℕ → Numbers) → ℕ → Bool
is_in word e = contains (word (e / 64)) (e % 64)

-- the numbers below max that words have
unfoldable pub gathered : ℕ → (ℕ → Numbers) → Numbers
gathered max word = below_where max (is_in word)

-- word k of a set
unfoldable pub word_in : Numbers → ℕ → Numbers
word_in s k = below_where 64 (λ i. contains s (64 * k + i))

-- the words have elements below 64, and none past max
pub record AreWords (max : ℕ) (word : ℕ → Numbers) : Type 0 where
  pub short : (k : ℕ) → IsBelow 64 (word k)
  pub within : (k i : ℕ) → contains (word k) i ≡ true → 64 * k + i < max

-- word k of a list of words
abbrev pub word_at : List Numbers → ℕ → Numbers
word_at words k = slice_index_or words k empty

-- how many numbers of word k are below max
abbrev pub room : ℕ → ℕ → ℕ
room max k = min 64 (max - 64 * k)

-- b is the least place from `from` on whose word has an element
pub record IsFirstNonEmpty (word : ℕ → Numbers) (from b : ℕ) : Type 0 where
  pub low : from ≤ b
  pub some : word b ≢ empty
  pub none_before : (k : ℕ) → from ≤ k → k < b → word k ≡ empty

-- ---- in bytes

-- n words in eight bytes each, least byte first
unfoldable pub words_bytes : ℕ → (ℕ → Numbers) → List ℕ
words_bytes n word = flat_map (λ k. to_le_bytes w64 (word_of (word k))) (range_with_len 0 n)

-- the words of a list in bytes
abbrev pub bytes_of_words : List Numbers → List ℕ
bytes_of_words words = words_bytes (length words) (word_at words)

-- the bound in four bytes, least byte first, and as many words as it needs
abbrev pub bytes_of : Subset → List ℕ
bytes_of s = to_le_bytes w32 s.max_value ++ words_bytes (div_ceil s.max_value 64) (word_in s.elements)

-- word k of bytes
unfoldable pub stored_word : List ℕ → ℕ → Numbers
stored_word bytes k = elements_of (from_le_bytes w64 (take 8 (drop (8 * k) bytes)))

-- what word k of both has
abbrev pub met_word : List ℕ → List ℕ → ℕ → Numbers
met_word left right k = intersection (stored_word left k) (stored_word right k)

-- the bound that bytes begin with
abbrev pub stored_bound : List ℕ → ℕ
stored_bound bytes = from_le_bytes w32 (take 4 bytes)

-- the bytes are a bound, as many words as it needs, and in them no element at or past it
pub record FitsBitSet (bytes : List ℕ) : Type 0 where
  pub begun : 4 ≤ length bytes
  pub whole : length bytes ≡ 4 + 8 * div_ceil (stored_bound bytes) 64
  pub within : (k i : ℕ) → contains (stored_word (drop 4 bytes) k) i ≡ true → 64 * k + i < stored_bound bytes

-- the set that bytes spell
abbrev pub stored_set : List ℕ → Subset
stored_set bytes = record { elements = gathered (stored_bound bytes) (stored_word (drop 4 bytes)); max_value = stored_bound bytes }
