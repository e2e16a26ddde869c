-- Words in bytes. A reader of contracts may skip this file.
use Rattle.std.proofs.Common.{◌≡◌, ℕ, zero, suc, ◌+◌, ◌-◌, ◌*◌, ◌/◌, ◌%◌, ◌^◌, ◌<◌, ◌≤◌, List, [], ◌∷◌, ◌++◌, length, take, drop, flat_map, refl, sym, ap, subst, ◌∙◌, arith, inl, inr, true, add-one, zero-add, w32, w64, append-nil, length-append, length-drop, ◌&&◌, false, ltb, not}
use Rattle.std.specs.Int.{div_ceil, to_le_bytes, from_le_bytes}
use Rattle.std.specs.List.{range_with_len}
use Rattle.std.specs.FinSet.{empty, contains, intersection, difference}
use Rattle.std.proofs.lemmas.Bool.{cases_lt, false≢true, and_parts, and_right, lt-ltb, ltb-true, cases_eq, le-ltb}
use Rattle.std.proofs.lemmas.List.{take-append-le, drop-append-le, drop_all, take_all}
use Rattle.std.proofs.lemmas.List.Concat.{flat_map-append}
use Rattle.std.proofs.lemmas.Nat.{from_le_bytes-to_le_bytes_4, from_le_bytes-to_le_bytes_8}
use Rattle.common_bitset.specs.Numbers.{Numbers, IsBelow, below}
use Rattle.common_bitset.specs.Words.{elements_of, word_of}
use Rattle.common_bitset.specs.Subset.{Subset, IsProper, is_in, gathered, word_in, AreWords, words_bytes, bytes_of, stored_word, stored_bound, stored_set, FitsBitSet}
use Rattle.common_bitset.specs.Laws.Ranges.{range_more}
use Rattle.common_bitset.specs.Laws.Sets.{contains_empty, below_where_same, IsBelow-below_where, alike, contains_intersection, contains_difference, contains_below}
use Rattle.common_bitset.specs.Laws.WordSets.{IsBelow-elements, elements-zero, elements-word_of, word_of-lt}
use Rattle.common_bitset.specs.Laws.Gathered.{contains_word_in, contains_gathered, IsBelow-gathered}
use Rattle.common_bitset.specs.Laid.{AreStored}

pub IsBelow-stored : (bytes : List ℕ) (k : ℕ) → IsBelow 64 (stored_word bytes k)
unfolding stored_word
IsBelow-stored bytes k = IsBelow-elements (from_le_bytes w64 (take 8 (drop (8 * k) bytes)))

pub stored_past : (bytes : List ℕ) (k : ℕ) → length bytes ≤ 8 * k → stored_word bytes k ≡ empty
unfolding stored_word
stored_past bytes k h = ap (λ xs. elements_of (from_le_bytes w64 (take 8 xs))) (drop_all (8 * k) bytes h) ∙ elements-zero

-- ---- words one after another

-- the bytes are n words
pub record Stores (bytes : List ℕ) (n : ℕ) (word : ℕ → Numbers) : Type 0 where
  pub long : length bytes ≡ 8 * n
  pub each : (k : ℕ) → k < n → stored_word bytes k ≡ word k

pub Stores-none : (word : ℕ → Numbers) → Stores [] 0 word
Stores-none word = record { long = refl; each = λ k h. absurd (none h) }
  where
    none : {k : ℕ} → k < 0 → ⊥
    none h = omega arith

stored_before : (bytes more : List ℕ) (k : ℕ) → 8 * k + 8 ≤ length bytes → stored_word (bytes ++ more) k ≡ stored_word bytes k
unfolding stored_word
stored_before bytes more k h =
    ap (λ xs. elements_of (from_le_bytes w64 xs))
    (ap (take 8) (drop-append-le (8 * k) bytes more (omega arith)) ∙ take-append-le 8 (drop (8 * k) bytes) more (omega (arith, length-drop (8 * k) bytes)))

stored_last : (bytes : List ℕ) (n w : ℕ) → length bytes ≡ 8 * n → w < 2 ^ 64 → stored_word (bytes ++ to_le_bytes w64 w) n ≡ elements_of w
unfolding stored_word
stored_last bytes n w long small =
    ap (λ xs. elements_of (from_le_bytes w64 xs))
    (ap (take 8) (drop-append-le (8 * n) bytes (to_le_bytes w64 w) (omega arith) ∙ ap (λ xs. xs ++ to_le_bytes w64 w) (drop_all (8 * n) bytes (omega arith))) ∙ take_all 8 (to_le_bytes w64 w) (omega arith))
    ∙ ap elements_of (from_le_bytes-to_le_bytes_8 w small)

pub Stores-more : (bytes : List ℕ) (n : ℕ) (word : ℕ → Numbers) → IsBelow 64 (word n) → Stores bytes n word → Stores (bytes ++ to_le_bytes w64 (word_of (word n))) (n + 1) word
Stores-more bytes n word short s = record {
  long = length-append bytes (to_le_bytes w64 (word_of (word n))) ∙ ap (λ m. m + 8) s.long ∙ eight_more n;
  each = λ k h. each k (omega arith);
}
  where
    eight_more : (n : ℕ) → 8 * n + 8 ≡ 8 * (n + 1)
    eight_more n = omega arith

    each : (k : ℕ) → k ≤ n → stored_word (bytes ++ to_le_bytes w64 (word_of (word n))) k ≡ word k
    each k h = elim (cases_lt k n) as (λ _. stored_word (bytes ++ to_le_bytes w64 (word_of (word n))) k ≡ word k) [
      | inl l ↦ stored_before bytes _ k (let long = s.long in omega arith) ∙ s.each k l
      | inr g ↦ let e : k ≡ n = omega arith in
          ap (stored_word (bytes ++ to_le_bytes w64 (word_of (word n)))) e ∙ stored_last bytes n (word_of (word n)) s.long (word_of-lt (word n) short)
          ∙ elements-word_of (word n) short ∙ ap word (sym e)
    ]

pub words_bytes-zero : (word : ℕ → Numbers) → words_bytes 0 word ≡ []
unfolding words_bytes
words_bytes-zero word = refl

pub words_bytes-more : (n : ℕ) (word : ℕ → Numbers) → words_bytes (n + 1) word ≡ words_bytes n word ++ to_le_bytes w64 (word_of (word n))
unfolding words_bytes
words_bytes-more n word =
    ap (λ m. flat_map (λ k. to_le_bytes w64 (word_of (word k))) (range_with_len 0 m)) (add-one n)
    ∙ ap (flat_map (λ k. to_le_bytes w64 (word_of (word k)))) (range_more 0 n)
    ∙ flat_map-append (λ k. to_le_bytes w64 (word_of (word k))) (range_with_len 0 n) ((0 + n) ∷ [])
    ∙ ap (λ xs. words_bytes n word ++ xs) (append-nil (to_le_bytes w64 (word_of (word (0 + n)))) ∙ ap (λ m. to_le_bytes w64 (word_of (word m))) (zero-add n))

pub Stores-words_bytes : (n : ℕ) (word : ℕ → Numbers) → ((k : ℕ) → IsBelow 64 (word k)) → Stores (words_bytes n word) n word
Stores-words_bytes zero word short = subst (λ bs. Stores bs 0 word) (sym (words_bytes-zero word)) (Stores-none word)
Stores-words_bytes (suc n) word short =
    subst (λ m. Stores (words_bytes m word) m word) (add-one n)
    (subst (λ bs. Stores bs (n + 1) word) (sym (words_bytes-more n word)) (Stores-more (words_bytes n word) n word (short n) (Stores-words_bytes n word short)))

-- the set that stored words have
pub gathered_stored : (max : ℕ) (bytes : List ℕ) (word : ℕ → Numbers) → Stores bytes (div_ceil max 64) word → gathered max (stored_word bytes) ≡ gathered max word
unfolding gathered
gathered_stored max bytes word s = below_where_same max (is_in (stored_word bytes)) (is_in word) (λ e h. ap (λ w. contains w (e % 64)) (s.each (e / 64) (omega arith)))

pub AreWords_stored : (max : ℕ) (bytes : List ℕ) (word : ℕ → Numbers) → Stores bytes (div_ceil max 64) word → AreWords max word → AreWords max (stored_word bytes)
AreWords_stored max bytes word s are = record {
  short = IsBelow-stored bytes;
  within = λ k i h. within k i h;
}
  where
    within : (k i : ℕ) → contains (stored_word bytes k) i ≡ true → 64 * k + i < max
    within k i h = elim (cases_lt k (div_ceil max 64)) as (λ _. 64 * k + i < max) [
      | inl l ↦ are.within k i (ap (λ w. contains w i) (sym (s.each k l)) ∙ h)
      | inr g ↦ absurd (false≢true (sym (ap (λ w. contains w i) (stored_past bytes k (let long = s.long in omega arith)) ∙ contains_empty i) ∙ h))
    ]

-- ---- what was written opens to the same set

-- the words of a set
pub AreWords-word_in : (max : ℕ) (s : Numbers) → IsBelow max s → AreWords max (word_in s)
AreWords-word_in max s within = record { short = λ k i h. (both k i h).0; within = λ k i h. within (64 * k + i) (both k i h).1 }
  where
    both : (k i : ℕ) → contains (word_in s k) i ≡ true → (i < 64) × (contains s (64 * k + i) ≡ true)
    both k i h = let parts = and_parts (ltb i 64) (contains s (64 * k + i)) (sym (contains_word_in s k i) ∙ h) in (ltb-true i 64 parts.0, parts.1)

pub gathered-word_in : (max : ℕ) (s : Numbers) → IsBelow max s → gathered max (word_in s) ≡ s
gathered-word_in max s within = alike _ s (λ e. contains_gathered max (word_in s) e ∙ ap (λ b. ltb e max && b) (at e) ∙ narrowed e)
  where
    at : (e : ℕ) → contains (word_in s (e / 64)) (e % 64) ≡ contains s e
    at e = let small : e % 64 < 64 = omega arith in let whole : 64 * (e / 64) + e % 64 ≡ e = omega arith in
        contains_word_in s (e / 64) (e % 64) ∙ (λ i. lt-ltb (e % 64) 64 small i && contains s (whole i))

    narrowed : (e : ℕ) → (ltb e max && contains s e) ≡ contains s e
    narrowed e = elim (contains s e) as (λ b. contains s e ≡ b → (ltb e max && b) ≡ b) [
      | true ↦ λ h. ap (λ b. b && true) (lt-ltb e max (within e h))
      | false ↦ λ h. and_right (ltb e max) false refl
    ] refl

bound_front : (max : ℕ) (rest : List ℕ) → max < 2 ^ 32 → stored_bound (to_le_bytes w32 max ++ rest) ≡ max
bound_front max rest small = ap (from_le_bytes w32) (take-append-le 4 (to_le_bytes w32 max) rest (omega arith) ∙ take_all 4 (to_le_bytes w32 max) (omega arith)) ∙ from_le_bytes-to_le_bytes_4 max small

words_rest : (max : ℕ) (rest : List ℕ) → drop 4 (to_le_bytes w32 max ++ rest) ≡ rest
words_rest max rest = drop-append-le 4 (to_le_bytes w32 max) rest (omega arith) ∙ ap (λ xs. xs ++ rest) (drop_all 4 (to_le_bytes w32 max) (omega arith))

pub Fits-bytes_of : (s : Subset) → IsProper s → FitsBitSet (bytes_of s)
Fits-bytes_of s proper = record {
  begun = omega (arith, length-append (to_le_bytes w32 s.max_value) words);
  whole = length-append (to_le_bytes w32 s.max_value) words ∙ ap (λ n. 4 + n) stores.long ∙ ap (λ m. 4 + 8 * div_ceil m 64) (sym bound);
  within = λ k i h. subst (λ m. 64 * k + i < m) (sym bound) (are.within k i (ap (λ bs. contains (stored_word bs k) i) (sym (words_rest s.max_value words)) ∙ h));
}
  where
    words : List ℕ
    words = words_bytes (div_ceil s.max_value 64) (word_in s.elements)

    bound : stored_bound (bytes_of s) ≡ s.max_value
    bound = bound_front s.max_value words proper.small

    of_words : AreWords s.max_value (word_in s.elements)
    of_words = AreWords-word_in s.max_value s.elements proper.within

    stores : Stores words (div_ceil s.max_value 64) (word_in s.elements)
    stores = Stores-words_bytes (div_ceil s.max_value 64) (word_in s.elements) of_words.short

    are : AreWords s.max_value (stored_word words)
    are = AreWords_stored s.max_value words (word_in s.elements) stores of_words

pub stored_set-bytes_of : (s : Subset) → IsProper s → stored_set (bytes_of s) ≡ s
stored_set-bytes_of s proper = λ i. record { elements = elements i; max_value = bound i }
  where
    words : List ℕ
    words = words_bytes (div_ceil s.max_value 64) (word_in s.elements)

    bound : stored_bound (bytes_of s) ≡ s.max_value
    bound = bound_front s.max_value words proper.small

    stores : Stores words (div_ceil s.max_value 64) (word_in s.elements)
    stores = Stores-words_bytes (div_ceil s.max_value 64) (word_in s.elements) (AreWords-word_in s.max_value s.elements proper.within).short

    elements : gathered (stored_bound (bytes_of s)) (stored_word (drop 4 (bytes_of s))) ≡ s.elements
    elements = (λ i. gathered (bound i) (stored_word (words_rest s.max_value words i))) ∙ gathered_stored s.max_value words (word_in s.elements) stores
        ∙ gathered-word_in s.max_value s.elements proper.within

-- ---- the last word

pub ends_whole : (bytes : List ℕ) (max : ℕ) → length bytes ≡ 8 * div_ceil max 64 → max % 64 ≡ 0 → AreWords max (stored_word bytes)
ends_whole bytes max long even = record { short = IsBelow-stored bytes; within = λ k i h. within k i h }
  where
    within : (k i : ℕ) → contains (stored_word bytes k) i ≡ true → 64 * k + i < max
    within k i h = elim (cases_lt k (div_ceil max 64)) as (λ _. 64 * k + i < max) [
      | inl l ↦ let s : i < 64 = IsBelow-stored bytes k i h in omega arith
      | inr g ↦ absurd (false≢true (sym (ap (λ w. contains w i) (stored_past bytes k (omega arith)) ∙ contains_empty i) ∙ h))
    ]

module _ (bytes : List ℕ) (max n : ℕ) (long : length bytes ≡ 8 * div_ceil max 64) (odd : max % 64 ≡ 0 → ⊥) (last_is : n ≡ length bytes / 8 - 1) where
  abbrev Clean : Type 0
  Clean = intersection (stored_word bytes n) (difference (below 64) (below (max % 64))) ≡ empty

  at_last : (i : ℕ) → contains (intersection (stored_word bytes n) (difference (below 64) (below (max % 64)))) i ≡ (contains (stored_word bytes n) i && (ltb i 64 && not (ltb i (max % 64))))
  at_last i = contains_intersection (stored_word bytes n) _ i ∙ ap (λ b. contains (stored_word bytes n) i && b) (contains_difference (below 64) (below (max % 64)) i ∙ (λ j. contains_below 64 i j && not (contains_below (max % 64) i j)))

  pub ends_clean : intersection (stored_word bytes n) (difference (below 64) (below (max % 64))) ≡ empty → AreWords max (stored_word bytes)
  ends_clean clean = record { short = IsBelow-stored bytes; within = λ k i h. within k i h }
    where
      low : (i : ℕ) → contains (stored_word bytes n) i ≡ true → i < max % 64
      low i h = elim (cases_lt i (max % 64)) as (λ _. i < max % 64) [
        | inl l ↦ l
        | inr g ↦ absurd (false≢true (sym (sym (at_last i) ∙ ap (λ s. contains s i) clean ∙ contains_empty i) ∙ (λ j. h j && (lt-ltb i 64 (IsBelow-stored bytes n i h) j && not (le-ltb i (max % 64) g j)))))
      ]

      within : (k i : ℕ) → contains (stored_word bytes k) i ≡ true → 64 * k + i < max
      within k i h = elim (cases_lt k (div_ceil max 64)) as (λ _. 64 * k + i < max) [
        | inl l ↦ elim (cases_eq k n) as (λ _. 64 * k + i < max) [
          | inl e ↦ let s : i < max % 64 = low i (ap (λ m. contains (stored_word bytes m) i) (sym e) ∙ h) in omega arith
          | inr other ↦ let s : i < 64 = IsBelow-stored bytes k i h in omega arith
        ]
        | inr g ↦ absurd (false≢true (sym (ap (λ w. contains w i) (stored_past bytes k (omega arith)) ∙ contains_empty i) ∙ h))
      ]

  pub clean_ends : AreWords max (stored_word bytes) → intersection (stored_word bytes n) (difference (below 64) (below (max % 64))) ≡ empty
  clean_ends are = alike _ empty (λ i. at_last i ∙ none i ∙ sym (contains_empty i))
    where
      none : (i : ℕ) → (contains (stored_word bytes n) i && (ltb i 64 && not (ltb i (max % 64)))) ≡ false
      none i = elim (contains (stored_word bytes n) i) as (λ b. contains (stored_word bytes n) i ≡ b → (b && (ltb i 64 && not (ltb i (max % 64)))) ≡ false) [
        | true ↦ λ h. ap (λ b. ltb i 64 && not b) (lt-ltb i (max % 64) (low (are.within n i h))) ∙ and_right (ltb i 64) false refl
        | false ↦ λ h. refl
      ] refl
        where
          low : 64 * n + i < max → i < max % 64
          low l = omega arith

-- ---- what a stored set is

pub IsProper-stored : {bytes : List ℕ} {max : ℕ} → AreStored bytes max → IsProper (record { elements = gathered max (stored_word bytes); max_value = max })
IsProper-stored {bytes} {max} are = record { within = IsBelow-gathered max (stored_word bytes); small = are.small }

-- ---- bytes that fit

pub fits_parts : (bytes : List ℕ) → 4 ≤ length bytes → length (drop 4 bytes) ≡ 8 * div_ceil (stored_bound bytes) 64 → AreWords (stored_bound bytes) (stored_word (drop 4 bytes)) → FitsBitSet bytes
fits_parts bytes begun whole are = record { begun = begun; whole = omega (arith, length-drop 4 bytes, whole); within = are.within }

pub fits_words : (bytes : List ℕ) → FitsBitSet bytes → AreWords (stored_bound bytes) (stored_word (drop 4 bytes))
fits_words bytes fits = record { short = IsBelow-stored (drop 4 bytes); within = fits.within }

pub fits_length : (bytes : List ℕ) → FitsBitSet bytes → length (drop 4 bytes) ≡ 8 * div_ceil (stored_bound bytes) 64
fits_length bytes fits = let whole = fits.whole in omega (arith, length-drop 4 bytes, whole)

pub stored_laid : (bytes : List ℕ) → FitsBitSet bytes → stored_bound bytes < 2 ^ 32 → AreStored (drop 4 bytes) (stored_bound bytes)
stored_laid bytes fits small = record { length_is = fits_length bytes fits; are_words = fits_words bytes fits; small = small }

-- ---- stored sets from words

pub stored_from : (bytes : List ℕ) (max : ℕ) (word : ℕ → Numbers) → Stores bytes (div_ceil max 64) word → AreWords max word → max < 2 ^ 32 → AreStored bytes max
stored_from bytes max word s are small = record { length_is = s.long; are_words = AreWords_stored max bytes word s are; small = small }

-- one more word, as the code writes it
pub Stores-push : {bytes : List ℕ} {n : ℕ} {word : ℕ → Numbers} (new tail : List ℕ) (w : Numbers) → Stores bytes n word → IsBelow 64 (word n) → w ≡ word n → tail ≡ to_le_bytes w64 (word_of w) → new ≡ bytes ++ tail → Stores new (n + 1) word
Stores-push {bytes} {n} {word} new tail w s short is spelled grown =
    subst (λ bs. Stores bs (n + 1) word) (sym (grown ∙ ap (λ t. bytes ++ t) (spelled ∙ ap (λ v. to_le_bytes w64 (word_of v)) is))) (Stores-more bytes n word short s)

pub IsBelow-word_in : (s : Numbers) (k : ℕ) → IsBelow 64 (word_in s k)
unfolding word_in
IsBelow-word_in s k = IsBelow-below_where 64 (λ i. contains s (64 * k + i))

pub IsBelow-meet : (s t : Numbers) → IsBelow 64 s → IsBelow 64 (intersection s t)
IsBelow-meet s t within e h = within e (and_parts (contains s e) (contains t e) (sym (contains_intersection s t e) ∙ h)).0
