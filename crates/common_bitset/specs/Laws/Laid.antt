-- A set stays laid out in words through each change. A reader of contracts may skip this file.
use Rattle.std.proofs.Common.{◌≡◌, ℕ, ◌+◌, ◌-◌, ◌*◌, ◌/◌, ◌%◌, ◌^◌, ◌<◌, ◌≤◌, not, Bool, true, false, cond, List, length, set, get_or, inl, inr, refl, sym, ap, subst, ◌∙◌, arith, length-set, add-zero, replicate}
use Rattle.std.specs.List.{range_with_len}
use Rattle.std.specs.Int.{div_ceil, from_bool}
use Rattle.std.specs.Cmp.{nat_cmp_total}
use Rattle.std.specs.Ordering.{nat_cmp}
use Rattle.std.specs.FinSet.{empty, empty_of_len, contains-empty, insert, remove, contains, union, intersection, len, len-insert, len-remove, difference, len-empty}
use Rattle.std.proofs.lemmas.Bool.{cases_eq, false≢true, cases_lt}
use Rattle.std.proofs.lemmas.List.{get_or_default, get_or_past, get_or-replicate, length-replicate}
use Rattle.std.proofs.lemmas.List.Sums.{count_by-le-length, length-filter}
use Rattle.std.proofs.lemmas.List.FromFn.{length-range_with_len}
use Rattle.common_bitset.specs.Numbers.{Numbers, below, IsBelow}
use Rattle.common_bitset.specs.Subset.{IsProper, is_in, gathered, word_at, AreWords, room}
use Rattle.common_bitset.specs.Laid.{IsLaid}
use Rattle.common_bitset.specs.Counts.{total}
use Rattle.common_bitset.specs.Laws.Sets.{len_below_where, IsBelow-difference, IsBelow-below, IsBelow-empty, len-complement, len_below, below-zero, difference-empty, intersection-difference, intersection-nothing}
use Rattle.common_bitset.specs.Laws.Gathered.{Changes, word_at_set, IsBelow-gathered, contains_gathered_at, gathered-insert, gathered-remove, AreWords-insert, AreWords-remove, gathered-union, gathered-intersection, AreWords-union, AreWords-intersection, total-len, AreWords-room, AreWords-empty, gathered-empty, gathered-complement, gathered-full}

pub word_of_element : (max el : ℕ) → el < max → el / 64 < div_ceil max 64
word_of_element max el h = omega arith

pub words_enough : (max : ℕ) → max ≤ 64 * div_ceil max 64
words_enough max = omega arith

pub len_gathered_le : (max : ℕ) (word : ℕ → Numbers) → len (gathered max word) ≤ max
unfolding gathered
len_gathered_le max word =
    let bound = count_by-le-length (is_in word) (range_with_len 0 max) in
    omega (arith, len_below_where max (is_in word), length-filter (is_in word) (range_with_len 0 max), bound, length-range_with_len 0 max)

pub IsProper-laid : {words : List Numbers} {count max : ℕ} → IsLaid words count max → IsProper (record { elements = gathered max (word_at words); max_value = max })
IsProper-laid {words} {count} {max} laid = record { within = IsBelow-gathered max (word_at words); small = laid.small }

module _ (words : List Numbers) (count max el : ℕ) (laid : IsLaid words count max) (within : el < max) where
  pub place_of : el / 64 < length words
  place_of = let e = laid.length_is in omega (arith, word_of_element max el within)

  pub contains_at : contains (word_at words (el / 64)) (el % 64) ≡ contains (gathered max (word_at words)) el
  contains_at = contains_gathered_at max (word_at words) el within

  changes : (w : Numbers) → Changes (word_at words) (word_at (set words (el / 64) w)) (el / 64) w
  changes w = record { each = λ j. word_at_set words (el / 64) w j place_of }

  pub elements-insert : gathered max (word_at (set words (el / 64) (insert (word_at words (el / 64)) (el % 64)))) ≡ insert (gathered max (word_at words)) el
  elements-insert = gathered-insert max el (word_at words) _ within (changes _)

  pub elements-remove : gathered max (word_at (set words (el / 64) (remove (word_at words (el / 64)) (el % 64)))) ≡ remove (gathered max (word_at words)) el
  elements-remove = gathered-remove max el (word_at words) _ within (changes _)

  one_more : (b : Bool) (n : ℕ) → cond b n (n + 1) ≡ n + from_bool (not b)
  one_more true n = sym (add-zero n)
  one_more false n = refl

  pub laid-insert : IsLaid (set words (el / 64) (insert (word_at words (el / 64)) (el % 64))) (count + from_bool (not (contains (word_at words (el / 64)) (el % 64)))) max
  laid-insert = record {
    length_is = length-set words (el / 64) _ ∙ laid.length_is;
    are_words = AreWords-insert max el (word_at words) _ within laid.are_words (changes _);
    count_is = (λ i. laid.count_is i + from_bool (not (contains_at i))) ∙ sym (one_more (contains (gathered max (word_at words)) el) _)
        ∙ sym (len-insert nat_cmp_total (gathered max (word_at words)) el) ∙ ap len (sym elements-insert);
    small = laid.small;
  }

  one_less : (b : Bool) (n : ℕ) → cond b (n - 1) n ≡ n - from_bool b
  one_less true n = refl
  one_less false n = omega arith

  pub laid-remove : IsLaid (set words (el / 64) (remove (word_at words (el / 64)) (el % 64))) (count - from_bool (contains (word_at words (el / 64)) (el % 64))) max
  laid-remove = record {
    length_is = length-set words (el / 64) _ ∙ laid.length_is;
    are_words = AreWords-remove max el (word_at words) _ within laid.are_words (changes _);
    count_is = (λ i. laid.count_is i - from_bool (contains_at i)) ∙ sym (one_less (contains (gathered max (word_at words)) el) _)
        ∙ sym (len-remove nat_cmp_total (gathered max (word_at words)) el) ∙ ap len (sym elements-remove);
    small = laid.small;
  }

-- words that were all changed, and counted
module _ (words words' : List Numbers) (count max count' : ℕ) (laid : IsLaid words count max) (same_length : length words' ≡ length words) (counted : count' ≡ total (length words) (word_at words')) where
  enough : max ≤ 64 * length words
  enough = let e = laid.length_is in omega (arith, words_enough max)

  pub laid_again : AreWords max (word_at words') → IsLaid words' count' max
  laid_again are = record {
    length_is = same_length ∙ laid.length_is;
    are_words = are;
    count_is = counted ∙ total-len max (length words) (word_at words') are enough;
    small = laid.small;
  }

-- ---- in the words of the code, which reads x at the word and writes w there

-- a word that was read
pub word_read : (words : List Numbers) (k : ℕ) (x : Numbers) → k < length words → x ≡ get_or words k x → x ≡ word_at words k
word_read words k x within read = read ∙ get_or_default words k x empty within

module _ (words : List Numbers) (count max el : ℕ) (x : Numbers) (laid : IsLaid words count max) (within : el < max) (read : x ≡ get_or words (el / 64) x) where
  here : x ≡ word_at words (el / 64)
  here = word_read words (el / 64) x (place_of words count max el laid within) read

  pub contains_read : contains x (el % 64) ≡ contains (gathered max (word_at words)) el
  contains_read = ap (λ s. contains s (el % 64)) here ∙ contains_at words count max el laid within

  pub elements_inserted : (w : Numbers) → w ≡ insert x (el % 64) → gathered max (word_at (set words (el / 64) w)) ≡ insert (gathered max (word_at words)) el
  elements_inserted w is = ap (λ s. gathered max (word_at (set words (el / 64) s))) (is ∙ ap (λ s. insert s (el % 64)) here) ∙ elements-insert words count max el laid within

  pub elements_removed : (w : Numbers) → w ≡ remove x (el % 64) → gathered max (word_at (set words (el / 64) w)) ≡ remove (gathered max (word_at words)) el
  elements_removed w is = ap (λ s. gathered max (word_at (set words (el / 64) s))) (is ∙ ap (λ s. remove s (el % 64)) here) ∙ elements-remove words count max el laid within

  pub laid_inserted : (w : Numbers) (r : Bool) → w ≡ insert x (el % 64) → r ≡ not (contains x (el % 64)) → IsLaid (set words (el / 64) w) (count + from_bool r) max
  laid_inserted w r is tells =
      subst (λ s. IsLaid (set words (el / 64) s) (count + from_bool r) max) (sym (is ∙ ap (λ s. insert s (el % 64)) here))
      (subst (λ b. IsLaid (set words (el / 64) (insert (word_at words (el / 64)) (el % 64))) (count + from_bool b) max) (sym (tells ∙ ap (λ s. not (contains s (el % 64))) here)) (laid-insert words count max el laid within))

  pub laid_removed : (w : Numbers) (r : Bool) → w ≡ remove x (el % 64) → r ≡ contains x (el % 64) → IsLaid (set words (el / 64) w) (count - from_bool r) max
  laid_removed w r is tells =
      subst (λ s. IsLaid (set words (el / 64) s) (count - from_bool r) max) (sym (is ∙ ap (λ s. remove s (el % 64)) here))
      (subst (λ b. IsLaid (set words (el / 64) (remove (word_at words (el / 64)) (el % 64))) (count - from_bool b) max) (sym (tells ∙ ap (λ s. contains s (el % 64)) here)) (laid-remove words count max el laid within))

  -- an element that is there is counted
  pub counted_read : (r : Bool) → r ≡ contains x (el % 64) → from_bool r ≤ count
  counted_read true tells = rw laid.count_is (not_none (gathered max (word_at words)) el (sym (contains_read) ∙ sym tells))
    where
      not_none : (s : Numbers) (e : ℕ) → contains s e ≡ true → 1 ≤ len s
      not_none s e has = elim (cases_eq (len s) 0) as (λ _. 1 ≤ len s) [
        | inl none ↦ absurd (false≢true (sym (ap (λ t. contains t e) (empty_of_len s none) ∙ contains-empty nat_cmp e) ∙ has))
        | inr some ↦ omega arith
      ]
  counted_read false tells = omega arith

-- ---- two sets in words

module _ (items others new : List Numbers) (count count2 max max2 count' : ℕ) (laid : IsLaid items count max) (other : IsLaid others count2 max2) (same_bound : max2 ≡ max)
    (long : length new ≡ length items) (counted : count' ≡ total (length items) (word_at new)) where
  pub laid_union : ((k : ℕ) → word_at new k ≡ union (word_at items k) (word_at others k)) → IsLaid new count' max
  laid_union each = laid_again items new count max count' laid long counted
      (AreWords-union max (word_at items) (word_at others) (word_at new) laid.are_words (subst (λ m. AreWords m (word_at others)) same_bound other.are_words) each)

  pub elements_union : ((k : ℕ) → word_at new k ≡ union (word_at items k) (word_at others k)) → gathered max (word_at new) ≡ union (gathered max (word_at items)) (gathered max2 (word_at others))
  elements_union each = gathered-union max (word_at items) (word_at others) (word_at new) each ∙ ap (λ m. union (gathered max (word_at items)) (gathered m (word_at others))) (sym same_bound)

  pub laid_intersection : ((k : ℕ) → word_at new k ≡ intersection (word_at items k) (word_at others k)) → IsLaid new count' max
  laid_intersection each = laid_again items new count max count' laid long counted
      (AreWords-intersection max (word_at items) (word_at others) (word_at new) laid.are_words each)

  pub elements_intersection : ((k : ℕ) → word_at new k ≡ intersection (word_at items k) (word_at others k)) → gathered max (word_at new) ≡ intersection (gathered max (word_at items)) (gathered max2 (word_at others))
  elements_intersection each = gathered-intersection max (word_at items) (word_at others) (word_at new) each ∙ ap (λ m. intersection (gathered max (word_at items)) (gathered m (word_at others))) (sym same_bound)

-- ---- all words made anew

pub laid_complement : (items new : List Numbers) (count max : ℕ) → IsLaid items count max → length new ≡ length items
    → ((k : ℕ) → word_at new k ≡ difference (below (room max k)) (word_at items k)) → IsLaid new (max - count) max
laid_complement items new count max laid long each = record {
  length_is = long ∙ laid.length_is;
  are_words = AreWords-room max (word_at new) (λ k. subst (IsBelow (room max k)) (sym (each k)) (IsBelow-difference (room max k) (word_at items k)));
  count_is = left_over count (len (gathered max (word_at items))) _ laid.count_is (len-complement max (gathered max (word_at items)) (IsBelow-gathered max (word_at items)))
      ∙ ap len (sym (gathered-complement max (word_at items) (word_at new) each));
  small = laid.small;
}
  where
    left_over : (count a b : ℕ) → count ≡ a → a + b ≡ max → max - count ≡ b
    left_over count a b same whole = omega arith

pub count-le : {words : List Numbers} {count max : ℕ} → IsLaid words count max → count ≤ max
count-le {words} {count} {max} laid = let bound = len_gathered_le max (word_at words) in let counted = laid.count_is in omega (arith, bound, counted)

pub laid_empty : (new : List Numbers) (max : ℕ) → length new ≡ div_ceil max 64 → max < 2 ^ 32 → ((k : ℕ) → word_at new k ≡ empty) → IsLaid new 0 max
laid_empty new max long small each = record {
  length_is = long;
  are_words = AreWords-empty max (word_at new) each;
  count_is = sym (ap len (gathered-empty max (word_at new) each) ∙ len-empty nat_cmp);
  small = small;
}

pub laid_full : (new : List Numbers) (max : ℕ) → length new ≡ div_ceil max 64 → max < 2 ^ 32 → ((k : ℕ) → word_at new k ≡ below (room max k)) → IsLaid new max max
laid_full new max long small each = record {
  length_is = long;
  are_words = AreWords-room max (word_at new) (λ k. subst (IsBelow (room max k)) (sym (each k)) (IsBelow-below (room max k) (room max k) (omega arith)));
  count_is = sym (ap len (gathered-full max (word_at new) each) ∙ len_below max);
  small = small;
}

-- ---- lists of one word

pub word_at-replicate : (n : ℕ) (w : Numbers) (k : ℕ) → k < n → word_at (replicate n w) k ≡ w
word_at-replicate n w k h = get_or-replicate n k w empty h

pub IsBelow-replicate : (n k : ℕ) → IsBelow 64 (word_at (replicate n (below 64)) k)
IsBelow-replicate n k = elim (cases_lt k n) as (λ _. IsBelow 64 (word_at (replicate n (below 64)) k)) [
  | inl h ↦ subst (IsBelow 64) (sym (word_at-replicate n (below 64) k h)) (IsBelow-below 64 64 (omega arith))
  | inr h ↦ subst (IsBelow 64) (sym (get_or_past (replicate n (below 64)) k empty (omega (arith, length-replicate n (below 64))))) (IsBelow-empty 64)
]

-- full words that were cut at the bound
pub full_word : (max k : ℕ) → intersection (word_at (replicate (div_ceil max 64) (below 64)) k) (below (room max k)) ≡ below (room max k)
full_word max k = elim (cases_lt k (div_ceil max 64)) as (λ _. intersection (word_at (replicate (div_ceil max 64) (below 64)) k) (below (room max k)) ≡ below (room max k)) [
  | inl h ↦ ap (λ s. intersection s (below (room max k))) (word_at-replicate (div_ceil max 64) (below 64) k h) ∙ below_below (room max k) (omega arith)
  | inr h ↦ let none : room max k ≡ 0 = omega arith in
      ap (λ s. intersection s (below (room max k))) (get_or_past (replicate (div_ceil max 64) (below 64)) k empty (omega (arith, length-replicate (div_ceil max 64) (below 64))))
      ∙ intersection-nothing (below (room max k)) ∙ sym (ap below none ∙ below-zero)
]
  where
    below_below : (m : ℕ) → m ≤ 64 → intersection (below 64) (below m) ≡ below m
    below_below m h = ap (λ s. intersection s (below m)) (sym (difference-empty (below 64))) ∙ intersection-difference m 64 empty h ∙ difference-empty (below m)

pub empty_word : (n k : ℕ) → word_at (replicate n empty) k ≡ empty
empty_word n k = elim (cases_lt k n) as (λ _. word_at (replicate n empty) k ≡ empty) [
  | inl h ↦ word_at-replicate n empty k h
  | inr h ↦ get_or_past (replicate n empty) k empty (omega (arith, length-replicate n (empty {R = nat_cmp})))
]
