-- What the operations on words of bits do to the sets of their elements. A reader of contracts may skip this file.
use Rattle.std.proofs.Common.{◌≡◌, ℕ, zero, suc, ◌+◌, ◌-◌, ◌*◌, ◌/◌, ◌%◌, ◌^◌, ◌<◌, ◌≤◌, min, max, ◌&&◌, ◌||◌, not, Bool, true, false, cond, List, ◌∷◌, refl, sym, ap, ◌∙◌, arith, nat_eq, eqb, ltb, inl, inr, length, filter, sum_by, count_ones, bit_and, bit_or, w64, one-add, add-one, pow-suc, mod-eq_of_lt, lit<, Option, None, Some, IsNone, IfSome, ◌↔◌, zero-mul, zero-add, add-zero, suc-mul, mul-one, div-one, subst}
use Rattle.std.specs.List.{range_with_len}
use Rattle.std.specs.Int.{bit_at, bit_not, trailing_zeros}
use Rattle.std.specs.Int.Count.{ones_step, ones-le}
use Rattle.std.specs.Bool.{Decides}
use Rattle.std.specs.Cmp.{both_ways}
use Rattle.std.specs.Iterator.{YieldsFirst}
use Rattle.std.specs.FinSet.{empty, insert, remove, contains, union, intersection, difference, len}
use Rattle.std.proofs.lemmas.Bool.{and_right, cases_eq, cases_lt, cases_order, le-ltb, lt-ltb, eq-eqb, ne_eqb, eqb-true, ltb-true}
use Rattle.std.proofs.lemmas.Bool.Decides.{nat_tests}
use Rattle.std.proofs.lemmas.Nat.{shr-shr, mod-pow-add, mod_below, one_shl, pow_pos, shr_split, pow-add, or_lt, pow_below}
use Rattle.std.proofs.lemmas.Nat.Bits.{bit_at-lt, bit_at_and, bit_at_or, bit_at_not, bit_at-zero, bit_at_ones, bit_at_ones_above, bit_at-pow_same, bit_at-pow_other, bit_at-trailing_zeros, bit_at_lowest, bit_at-suc, bit_at_cat_low, bit_at_cat_high, same_from_bits_below, shr_and_one}
use Rattle.std.proofs.lemmas.List.Sums.{sum_by-cons}
use Rattle.std.proofs.lemmas.List.{length-map}
use Rattle.common_bitset.specs.Numbers.{Numbers, below, IsBelow, rising, same, IsLeast, without, below_where}
use Rattle.common_bitset.specs.Words.{elements_of, word_of}
use Rattle.common_bitset.specs.Laws.Ranges.{filter_same, filter_moved}
use Rattle.common_bitset.specs.Laws.Sets.{alike, contains_insert, contains_remove, contains_below, contains_below_where, contains_union, contains_intersection, contains_difference, contains_empty, IsBelow-below_where, len_below_where, rising_of_where, rising_empty, rising_first, same-Decides, intersection-others, one_more, no_more, union-single, below_where_of, below_where_none}

-- the test of one bit
abbrev has : ℕ → ℕ → Bool
has w i = eqb (bit_at w i) 1

pub contains_elements : (w e : ℕ) → contains (elements_of w) e ≡ (ltb e 64 && eqb (bit_at w e) 1)
unfolding elements_of
contains_elements w e = contains_below_where 64 (has w) e

pub IsBelow-elements : (w : ℕ) → IsBelow 64 (elements_of w)
unfolding elements_of
IsBelow-elements w = IsBelow-below_where 64 (has w)

pub len_elements : (w : ℕ) → len (elements_of w) ≡ length (filter (λ i. eqb (bit_at w i) 1) (range_with_len 0 64))
unfolding elements_of
len_elements w = len_below_where 64 (has w)

pub rising_elements : (w : ℕ) → rising 64 (elements_of w) ≡ filter (λ i. eqb (bit_at w i) 1) (range_with_len 0 64)
unfolding elements_of
rising_elements w = rising_of_where 64 (has w)

both_bits : (x y : ℕ) → x < 2 → y < 2 → eqb (min x y) 1 ≡ (eqb x 1 && eqb y 1)
both_bits x y hx hy = grind (arith, nat_tests)

either_bit : (x y : ℕ) → x < 2 → y < 2 → eqb (max x y) 1 ≡ (eqb x 1 || eqb y 1)
either_bit x y hx hy = grind (arith, nat_tests)

other_bit : (x : ℕ) → x < 2 → eqb (1 - x) 1 ≡ not (eqb x 1)
other_bit x hx = grind (arith, nat_tests)

and_both : (l p q : Bool) → (l && (p && q)) ≡ ((l && p) && (l && q))
and_both true p q = refl
and_both false p q = refl

and_either : (l p q : Bool) → (l && (p || q)) ≡ ((l && p) || (l && q))
and_either true p q = refl
and_either false p q = refl

and_other : (l p : Bool) → (l && not p) ≡ (l && not (l && p))
and_other true p = refl
and_other false p = refl

pub elements-and : (a b : ℕ) → elements_of (bit_and a b) ≡ intersection (elements_of a) (elements_of b)
elements-and a b = alike _ _ (λ e.
    contains_elements (bit_and a b) e
    ∙ ap (λ k. ltb e 64 && eqb k 1) (bit_at_and a b e)
    ∙ ap (λ t. ltb e 64 && t) (both_bits (bit_at a e) (bit_at b e) (bit_at-lt a e) (bit_at-lt b e))
    ∙ and_both (ltb e 64) (has a e) (has b e)
    ∙ (λ i. sym (contains_elements a e) i && sym (contains_elements b e) i)
    ∙ sym (contains_intersection (elements_of a) (elements_of b) e))

pub elements-or : (a b : ℕ) → elements_of (bit_or a b) ≡ union (elements_of a) (elements_of b)
elements-or a b = alike _ _ (λ e.
    contains_elements (bit_or a b) e
    ∙ ap (λ k. ltb e 64 && eqb k 1) (bit_at_or a b e)
    ∙ ap (λ t. ltb e 64 && t) (either_bit (bit_at a e) (bit_at b e) (bit_at-lt a e) (bit_at-lt b e))
    ∙ and_either (ltb e 64) (has a e) (has b e)
    ∙ (λ i. sym (contains_elements a e) i || sym (contains_elements b e) i)
    ∙ sym (contains_union (elements_of a) (elements_of b) e))

pub elements-not : (a : ℕ) → a < 2 ^ 64 → elements_of (bit_not w64 a) ≡ difference (below 64) (elements_of a)
elements-not a small = alike _ _ (λ e.
    contains_elements (bit_not w64 a) e
    ∙ turned e
    ∙ and_other (ltb e 64) (has a e)
    ∙ (λ i. sym (contains_below 64 e) i && not (sym (contains_elements a e) i))
    ∙ sym (contains_difference (below 64) (elements_of a) e))
  where
    turned : (e : ℕ) → (ltb e 64 && has (bit_not w64 a) e) ≡ (ltb e 64 && not (has a e))
    turned e = elim (ltb e 64) as (λ b. ltb e 64 ≡ b → (b && has (bit_not w64 a) e) ≡ (b && not (has a e))) [
      | true ↦ λ h. ap (λ k. eqb k 1) (bit_at_not w64 a e small (ltb-true e 64 h)) ∙ other_bit (bit_at a e) (bit_at-lt a e)
      | false ↦ λ h. refl
    ] refl

pub elements-zero : elements_of 0 ≡ empty
elements-zero = alike _ _ (λ e. contains_elements 0 e ∙ ap (λ k. ltb e 64 && eqb k 1) (bit_at-zero e) ∙ and_right (ltb e 64) false refl ∙ sym (contains_empty e))

pub elements-ones : (k : ℕ) → k ≤ 64 → elements_of (2 ^ k - 1) ≡ below k
elements-ones k within = alike _ _ (λ e. contains_elements (2 ^ k - 1) e ∙ tests e ∙ sym (contains_below k e))
  where
    tests : (e : ℕ) → (ltb e 64 && has (2 ^ k - 1) e) ≡ ltb e k
    tests e = elim (cases_lt e k) as (λ _. (ltb e 64 && has (2 ^ k - 1) e) ≡ ltb e k) [
      | inl h ↦ rw (lt-ltb e k h, lt-ltb e 64 (omega arith), bit_at_ones k e h) refl
      | inr h ↦ rw (le-ltb e k h, bit_at_ones_above k e h) (and_right (ltb e 64) false refl)
    ]

pub elements-pow : (k : ℕ) → k < 64 → elements_of (2 ^ k) ≡ insert empty k
elements-pow k within = alike _ _ (λ e. contains_elements (2 ^ k) e ∙ tests e ∙ sym (contains_insert empty k e ∙ ap (λ b. nat_eq e k || b) (contains_empty e)))
  where
    tests : (e : ℕ) → (ltb e 64 && has (2 ^ k) e) ≡ (nat_eq e k || false)
    tests e = elim (cases_eq e k) as (λ _. (ltb e 64 && has (2 ^ k) e) ≡ (nat_eq e k || false)) [
      | inl h ↦ rw (eq-eqb e k h, lt-ltb e 64 (omega arith)) (ap (λ i. eqb (bit_at (2 ^ k) i) 1) h ∙ ap (λ b. eqb b 1) (bit_at-pow_same k))
      | inr h ↦ rw (ne_eqb e k h) (ap (λ b. ltb e 64 && eqb b 1) (bit_at-pow_other k e h) ∙ and_right (ltb e 64) false refl)
    ]

-- ---- the word of a set

bit_part : (b x p : ℕ) → b < 2 → cond (eqb b 1) (p + x) x ≡ b * p + x
bit_part b x p h = elim (cases_eq b 1) as (λ _. cond (eqb b 1) (p + x) x ≡ b * p + x) [
  | inl e ↦ rw (eq-eqb b 1 e, e) (omega arith)
  | inr e ↦ let z : b ≡ 0 = omega arith in rw (ne_eqb b 1 e, z) (omega arith)
]

sum_cond : (b : Bool) (k : ℕ) (xs : List ℕ) → sum_by (λ i. 2 ^ i) (cond b (k ∷ xs) xs) ≡ cond b (2 ^ k + sum_by (λ i. 2 ^ i) xs) (sum_by (λ i. 2 ^ i) xs)
sum_cond true k xs = sum_by-cons (λ i. 2 ^ i) k xs
sum_cond false k xs = refl

joined : (x p b : ℕ) → b * p + x * (p * 2) ≡ (x * 2 + b) * p
joined x p b = omega arith

sum_of_bits : (w k n : ℕ) → sum_by (λ i. 2 ^ i) (filter (has w) (range_with_len k n)) ≡ (w / 2 ^ k % 2 ^ n) * 2 ^ k
sum_of_bits w k zero =
    let none : w / 2 ^ k % 1 ≡ 0 = omega arith in
    rw none (sym (zero-mul (2 ^ k)))
sum_of_bits w k (suc n) =
    let split : w / 2 ^ k % 2 ^ suc n ≡ w / 2 ^ (k + 1) % 2 ^ n * 2 + bit_at w k =
    ap (λ j. w / 2 ^ k % 2 ^ j) (sym (add-one n)) ∙ mod-pow-add (w / 2 ^ k) n 1 ∙ ap (λ y. y % 2 ^ n * 2 + bit_at w k) (shr-shr w k 1) in
    sum_cond (has w k) k (filter (has w) (range_with_len (k + 1) n))
    ∙ bit_part (bit_at w k) _ (2 ^ k) (bit_at-lt w k)
    ∙ ap (λ x. bit_at w k * 2 ^ k + x) (sum_of_bits w (k + 1) n)
    ∙ ap (λ p. bit_at w k * 2 ^ k + w / 2 ^ (k + 1) % 2 ^ n * p) (pow-add 2 k 1)
    ∙ joined (w / 2 ^ (k + 1) % 2 ^ n) (2 ^ k) (bit_at w k)
    ∙ ap (λ y. y * 2 ^ k) (sym split)

-- the word of a word's elements is that word
pub word_of-elements : (w : ℕ) → w < 2 ^ 64 → word_of (elements_of w) ≡ w
unfolding word_of
word_of-elements w small =
    ap (sum_by (λ i. 2 ^ i)) (rising_elements w) ∙ sum_of_bits w 0 64
    ∙ mul-one (w / 1 % 2 ^ 64) ∙ ap (λ x. x % 2 ^ 64) (div-one w) ∙ mod-eq_of_lt small

pub same_word : (v w : ℕ) → v < 2 ^ 64 → w < 2 ^ 64 → elements_of v ≡ elements_of w → v ≡ w
same_word v w hv hw e = sym (word_of-elements v hv) ∙ ap word_of e ∙ word_of-elements w hw

-- ---- how many

ones_head : (b : ℕ) (xs : List ℕ) → b < 2 → length (cond (eqb b 1) (0 ∷ xs) xs) ≡ b + length xs
ones_head b xs h = elim (cases_eq b 1) as (λ _. length (cond (eqb b 1) (0 ∷ xs) xs) ≡ b + length xs) [
  | inl e ↦ rw (eq-eqb b 1 e, e) (sym (one-add (length xs)))
  | inr e ↦ let z : b ≡ 0 = omega arith in rw (ne_eqb b 1 e, z) (sym (zero-add (length xs)))
]

ones_of_bits : (n w : ℕ) → w < 2 ^ n → length (filter (has w) (range_with_len 0 n)) ≡ count_ones w
ones_of_bits zero w h = sym (le-zero_is (ones-le 0 w h))
  where
    le-zero_is : count_ones w ≤ 0 → count_ones w ≡ 0
    le-zero_is l = omega arith
ones_of_bits (suc n) w h =
    ones_head (bit_at w 0) (filter (has w) (range_with_len 1 n)) (bit_at-lt w 0)
    ∙ ap (λ x. bit_at w 0 + x) (ap length (filter_moved (has w) 1 0 n) ∙ length-map (filter (λ i. has w (1 + i)) (range_with_len 0 n)) (λ i. 1 + i)
    ∙ ap length (filter_same (λ i. has w (1 + i)) (has (w / 2)) 0 n (λ i from until. ap (λ j. has w j) (one-add i) ∙ ap (λ b. eqb b 1) (bit_at-suc w i)))
    ∙ ones_of_bits n (w / 2) half)
    ∙ ap (λ x. x + count_ones (w / 2)) (bit_at_lowest w) ∙ sym (ones_step w)
  where
    half : w / 2 < 2 ^ n
    half = let e : 2 ^ suc n ≡ 2 ^ n * 2 = pow-suc 2 n in omega arith

pub len-elements : (w : ℕ) → w < 2 ^ 64 → len (elements_of w) ≡ count_ones w
len-elements w small = len_elements w ∙ ones_of_bits 64 w small

-- ---- the least element

-- what is known of a word and the place of its lowest bit
record Lowest (w t : ℕ) : Type 0 where
  small : w < 2 ^ 64
  within : t < 64
  here : bit_at w t ≡ 1
  below_it : (i : ℕ) → i < t → bit_at w i ≡ 0

lowest : (w : ℕ) → 0 < w → w < 2 ^ 64 → Lowest w (trailing_zeros w64 w)
lowest w some small = let z = bit_at-trailing_zeros w64 w some small in record { small = small; within = z.0; here = z.1; below_it = z.2 }

-- a word with no bit below t is a multiple of 2 ^ t
no_rest : (w t : ℕ) → ((i : ℕ) → i < t → bit_at w i ≡ 0) → w / 2 ^ t * 2 ^ t ≡ w
no_rest w t none =
    let split : w / 2 ^ t * 2 ^ t + w % 2 ^ t ≡ w = shr_split w t in
    let rest : w % 2 ^ t ≡ 0 =
    same_from_bits_below t (w % 2 ^ t) 0 (mod_below w (2 ^ t) (pow_pos t)) (pow_pos t)
    (λ i h. sym (bit_at_cat_low (w / 2 ^ t) t (w % 2 ^ t) i h) ∙ ap (λ x. bit_at x i) split ∙ none i h ∙ sym (bit_at-zero i)) in
    omega (arith, split, rest)

one_less : (m p : ℕ) → 0 < p → suc m * p - 1 ≡ m * p + (p - 1)
one_less m p h = rw suc-mul (omega arith)

-- the bits of an odd number and of the one before it
odd_before : (q i : ℕ) → q % 2 ≡ 1 → 0 < i → bit_at (q - 1) i ≡ bit_at q i
odd_before q zero odd h = absurd (omega arith)
odd_before q (suc i) odd h =
    let e : (q - 1) / 2 ≡ q / 2 = omega arith in
    bit_at-suc (q - 1) i ∙ ap (λ x. bit_at x i) e ∙ sym (bit_at-suc q i)

-- the bits of q * 2 ^ t - 1
module _ (q t : ℕ) (odd : q % 2 ≡ 1) where
  before : q * 2 ^ t - 1 ≡ (q - 1) * 2 ^ t + (2 ^ t - 1)
  before = let e : q ≡ suc (q - 1) = omega arith in
      ap (λ x. x * 2 ^ t - 1) e ∙ one_less (q - 1) (2 ^ t) (pow_pos t)

  low_ones : 2 ^ t - 1 < 2 ^ t
  low_ones = let h : 0 < 2 ^ t = pow_pos t in omega arith

  before_same : bit_at (q * 2 ^ t - 1) t ≡ 0
  before_same =
      let none : (q - 1) % 2 ≡ 0 = omega arith in
      let here : t - t ≡ 0 = omega arith in
      ap (λ x. bit_at x t) before ∙ bit_at_cat_high (q - 1) t (2 ^ t - 1) t low_ones (omega arith)
      ∙ ap (bit_at (q - 1)) here ∙ bit_at_lowest (q - 1) ∙ none

  before_above : (i : ℕ) → t < i → bit_at (q * 2 ^ t - 1) i ≡ bit_at (q * 2 ^ t) i
  before_above i h =
      ap (λ x. bit_at x i) before ∙ bit_at_cat_high (q - 1) t (2 ^ t - 1) i low_ones (omega arith)
      ∙ odd_before q (i - t) odd (omega arith)
      ∙ sym (ap (λ x. bit_at x i) (sym (add-zero (q * 2 ^ t))) ∙ bit_at_cat_high q t 0 i (pow_pos t) (omega arith))

zero_min : (x : ℕ) → min 0 x ≡ 0
zero_min x = omega arith

min_same : (x : ℕ) → min x x ≡ x
min_same x = omega arith

-- w - 1 has the bits of w above the lowest one, and not that one
fewer : (w t : ℕ) → Lowest w t → (i : ℕ) → bit_at (bit_and w (w - 1)) i ≡ cond (eqb i t) 0 (bit_at w i)
fewer w t low i =
    bit_at_and w (w - 1) i
    ∙ elim (cases_order i t) as (λ _. min (bit_at w i) (bit_at (w - 1) i) ≡ cond (eqb i t) 0 (bit_at w i)) [
      | inl e ↦ rw (eq-eqb i t e) (ap (λ j. min (bit_at w i) (bit_at (w - 1) j)) e ∙ ap (λ b. min (bit_at w i) b) (ap (λ x. bit_at (x - 1) t) (sym whole) ∙ before_same (w / 2 ^ t) t low.here) ∙ none (bit_at w i))
      | inr h ↦ elim h as (λ _. min (bit_at w i) (bit_at (w - 1) i) ≡ cond (eqb i t) 0 (bit_at w i)) [
        | inl l ↦ rw (ne_eqb i t (λ e. omega arith), low.below_it i l) (zero_min (bit_at (w - 1) i))
        | inr g ↦ rw (ne_eqb i t (λ e. omega arith)) (ap (λ b. min (bit_at w i) b) (above g) ∙ min_same (bit_at w i))
      ]
    ]
  where
    whole : w / 2 ^ t * 2 ^ t ≡ w
    whole = no_rest w t low.below_it

    none : (x : ℕ) → min x 0 ≡ 0
    none x = omega arith

    above : t < i → bit_at (w - 1) i ≡ bit_at w i
    above g = ap (λ x. bit_at (x - 1) i) (sym whole) ∙ before_above (w / 2 ^ t) t low.here i g ∙ ap (λ x. bit_at x i) whole

pub least_is : (w : ℕ) → 0 < w → w < 2 ^ 64 → IsLeast (trailing_zeros w64 w) (elements_of w)
least_is w some small = at (trailing_zeros w64 w) (lowest w some small)
  where
    at : (t : ℕ) → Lowest w t → IsLeast t (elements_of w)
    at t low = record {
      here = contains_elements w t ∙ (λ i. lt-ltb t 64 low.within i && eqb (low.here i) 1);
      none_before = λ e h. contains_elements w e ∙ ap (λ b. ltb e 64 && eqb b 1) (low.below_it e h) ∙ and_right (ltb e 64) false refl;
    }

pub elements-without_least : (w : ℕ) → 0 < w → w < 2 ^ 64 → elements_of (bit_and w (w - 1)) ≡ remove (elements_of w) (trailing_zeros w64 w)
elements-without_least w some small = at (trailing_zeros w64 w) (lowest w some small)
  where
    at : (t : ℕ) → Lowest w t → elements_of (bit_and w (w - 1)) ≡ remove (elements_of w) t
    at t low = alike _ _ (λ e. contains_elements (bit_and w (w - 1)) e ∙ ap (λ b. ltb e 64 && eqb b 1) (fewer w t low e) ∙ tests e t (bit_at w e)
        ∙ ap (λ b. not (nat_eq e t) && b) (sym (contains_elements w e)) ∙ sym (contains_remove (elements_of w) t e))
      where
        tests : (e t b : ℕ) → (ltb e 64 && eqb (cond (eqb e t) 0 b) 1) ≡ (not (eqb e t) && (ltb e 64 && eqb b 1))
        tests e t b = elim (eqb e t) as (λ q. (ltb e 64 && eqb (cond q 0 b) 1) ≡ (not q && (ltb e 64 && eqb b 1))) [
          | true ↦ and_right (ltb e 64) false refl
          | false ↦ refl
        ]

-- ---- words and their tests

pub eqb-elements : (v w : ℕ) → v < 2 ^ 64 → w < 2 ^ 64 → eqb v w ≡ same (elements_of v) (elements_of w)
eqb-elements v w hv hw =
    both_ways (eqb v w) (same (elements_of v) (elements_of w))
    (λ h. (same-Decides (elements_of v) (elements_of w)).1 (ap elements_of (eqb-true v w h)))
    (λ h. eq-eqb v w (same_word v w hv hw ((same-Decides (elements_of v) (elements_of w)).0 h)))

pub zero_test : (w : ℕ) → w < 2 ^ 64 → Decides (eqb w 0) (elements_of w ≡ empty)
zero_test w small =
    (λ h. ap elements_of (eqb-true w 0 h) ∙ elements-zero, λ h. eq-eqb w 0 (same_word w 0 small (lit< tt) (h ∙ sym elements-zero)))

pub bit_test : (w e : ℕ) → e < 64 → eqb (bit_and (w / 2 ^ e) 1) 1 ≡ contains (elements_of w) e
bit_test w e within = ap (λ b. eqb b 1) (shr_and_one w e) ∙ sym (contains_elements w e ∙ ap (λ b. b && has w e) (lt-ltb e 64 within))

pub elements-shl : (k : ℕ) → k < 64 → elements_of (1 * 2 ^ k % 2 ^ 64) ≡ insert empty k
elements-shl k within = ap elements_of (one_shl k 64 within) ∙ elements-pow k within

pub elements-low : (k : ℕ) → k < 64 → elements_of (1 * 2 ^ k % 2 ^ 64 - 1) ≡ below k
elements-low k within = ap (λ x. elements_of (x - 1)) (one_shl k 64 within) ∙ elements-ones k (omega arith)

pub shl_small : (k : ℕ) → 1 * 2 ^ k % 2 ^ 64 < 2 ^ 64
shl_small k = mod_below (1 * 2 ^ k) (2 ^ 64) (lit< tt)

pub elements-clear : (w k : ℕ) → k < 64 → elements_of (bit_and w (bit_not w64 (1 * 2 ^ k % 2 ^ 64))) ≡ remove (elements_of w) k
elements-clear w k within =
    elements-and w _ ∙ ap (intersection (elements_of w)) (elements-not (1 * 2 ^ k % 2 ^ 64) (shl_small k) ∙ ap (difference (below 64)) (elements-shl k within))
    ∙ intersection-others 64 k (elements_of w) (IsBelow-elements w)

-- the call that takes out the least element is a step of the rising list
pub pop_is_step : (s t : Numbers) (r : Option ℕ) → (IsNone r ↔ (s ≡ empty)) → IfSome r (λ el. IsLeast el s) → IfSome r (λ el. el < 64) → t ≡ without s r
    → YieldsFirst (λ (rest : List ℕ). rest) (rising 64 s) r (rising 64 t)
pop_is_step s t None none least below_end after =
    let no_element : s ≡ empty = none.0 refl in
    (ap (rising 64) no_element ∙ rising_empty 64, ap (rising 64) (after ∙ no_element) ∙ rising_empty 64)
pop_is_step s t (Some el) none least below_end after = rising_first 64 el s below_end least ∙ ap (λ u. el ∷ rising 64 u) (sym after)

-- ---- every set below 64 is that of a word

record Spelled (s : Numbers) : Type 0 where
  word : ℕ
  small : word < 2 ^ 64
  is : elements_of word ≡ s

spelled_below : (n : ℕ) (p : ℕ → Bool) → n ≤ 64 → Spelled (below_where n p)
spelled_below zero p h = record { word = 0; small = lit< tt; is = elements-zero ∙ sym (below_where_none p) }
spelled_below (suc n) p h =
    let fewer_ones = spelled_below n p (omega arith) in
    elim (p n) as (λ b. p n ≡ b → Spelled (below_where (suc n) p)) [
      | true ↦ λ here. record {
        word = bit_or fewer_ones.word (2 ^ n);
        small = or_lt 64 fewer_ones.word (2 ^ n) fewer_ones.small (pow_below n 64 (omega arith));
        is = elements-or fewer_ones.word (2 ^ n) ∙ (λ i. union (fewer_ones.is i) (elements-pow n (omega arith) i)) ∙ union-single (below_where n p) n ∙ sym (one_more n p here);
      }
      | false ↦ λ here. record { word = fewer_ones.word; small = fewer_ones.small; is = fewer_ones.is ∙ sym (no_more n p here) }
    ] refl

spelled : (s : Numbers) → IsBelow 64 s → Spelled s
spelled s within = let w = spelled_below 64 (contains s) (omega arith) in record { word = w.word; small = w.small; is = w.is ∙ below_where_of 64 s within }

pub elements-word_of : (s : Numbers) → IsBelow 64 s → elements_of (word_of s) ≡ s
elements-word_of s within = let w = spelled s within in ap (λ t. elements_of (word_of t)) (sym w.is) ∙ ap elements_of (word_of-elements w.word w.small) ∙ w.is

pub word_of-lt : (s : Numbers) → IsBelow 64 s → word_of s < 2 ^ 64
word_of-lt s within = let w = spelled s within in
    let e : word_of s ≡ w.word = ap word_of (sym w.is) ∙ word_of-elements w.word w.small in
    subst (λ x. x < 2 ^ 64) (sym e) w.small
