-- What changes of words do to the set that they have together. A reader of contracts may skip this file.
use Rattle.std.proofs.Common.{◌≡◌, ℕ, zero, suc, ◌+◌, ◌-◌, ◌*◌, ◌/◌, ◌%◌, ◌<◌, ◌≤◌, ◌&&◌, ◌||◌, not, Bool, true, false, cond, List, ◌++◌, set, length, filter, refl, sym, ap, ◌∙◌, arith, nat_eq, eqb, ltb, inl, inr, get_or-set_same, get_or-set_other, length-append, append-nil, add-zero, zero-add, get_or}
use Rattle.std.specs.List.{range_with_len}
use Rattle.std.specs.Int.{div_ceil}
use Rattle.std.specs.FinSet.{empty, insert, remove, contains, union, intersection, difference, len}
use Rattle.std.proofs.lemmas.Bool.{and_right, and_parts, cases_eq, cases_lt, le-ltb, lt-ltb, eq-eqb, ne_eqb, eqb-true, or_cases, false≢true}
use Rattle.std.proofs.lemmas.List.{length-map, get_or_default, get_or_past}
use Rattle.common_bitset.specs.Numbers.{Numbers, below, IsBelow, rising}
use Rattle.common_bitset.specs.Subset.{is_in, gathered, word_in, word_at, AreWords, room}
use Rattle.common_bitset.specs.Counts.{total}
use Rattle.common_bitset.specs.Laws.Ranges.{filter_same, filter_none, filter_parts, filter_moved}
use Rattle.common_bitset.specs.Laws.Sets.{alike, contains_insert, contains_remove, contains_below, contains_below_where, contains_union, contains_intersection, contains_difference, contains_empty, IsBelow-below_where, len_below_where, length-rising, intersection-below, intersection-nothing}

pub contains_gathered : (max : ℕ) (word : ℕ → Numbers) (e : ℕ) → contains (gathered max word) e ≡ (ltb e max && contains (word (e / 64)) (e % 64))
unfolding gathered
contains_gathered max word e = contains_below_where max (is_in word) e

pub contains_gathered_at : (max : ℕ) (word : ℕ → Numbers) (e : ℕ) → e < max → contains (word (e / 64)) (e % 64) ≡ contains (gathered max word) e
contains_gathered_at max word e within = sym (contains_gathered max word e ∙ ap (λ b. b && contains (word (e / 64)) (e % 64)) (lt-ltb e max within))

pub IsBelow-gathered : (max : ℕ) (word : ℕ → Numbers) → IsBelow max (gathered max word)
unfolding gathered
IsBelow-gathered max word = IsBelow-below_where max (is_in word)

pub contains_word_in : (s : Numbers) (k i : ℕ) → contains (word_in s k) i ≡ (ltb i 64 && contains s (64 * k + i))
unfolding word_in
contains_word_in s k i = contains_below_where 64 (λ i. contains s (64 * k + i)) i

place : (k i : ℕ) → i < 64 → (64 * k + i) / 64 ≡ k
place k i h = omega arith

rest : (k i : ℕ) → i < 64 → (64 * k + i) % 64 ≡ i
rest k i h = omega arith

-- word k of the set that words have is word k
pub word_in-gathered : (max : ℕ) (word : ℕ → Numbers) (k : ℕ) → AreWords max word → word_in (gathered max word) k ≡ word k
word_in-gathered max word k are = alike _ _ (λ i. contains_word_in (gathered max word) k i ∙ tests i)
  where
    at : (i : ℕ) → i < 64 → contains (gathered max word) (64 * k + i) ≡ (ltb (64 * k + i) max && contains (word k) i)
    at i h = contains_gathered max word (64 * k + i) ∙ (λ j. ltb (64 * k + i) max && contains (word (place k i h j)) (rest k i h j))

    here : (i : ℕ) → (ltb (64 * k + i) max && contains (word k) i) ≡ contains (word k) i
    here i = elim (contains (word k) i) as (λ b. contains (word k) i ≡ b → (ltb (64 * k + i) max && b) ≡ b) [
      | true ↦ λ h. ap (λ b. b && true) (lt-ltb (64 * k + i) max (are.within k i h))
      | false ↦ λ h. and_right (ltb (64 * k + i) max) false refl
    ] refl

    tests : (i : ℕ) → (ltb i 64 && contains (gathered max word) (64 * k + i)) ≡ contains (word k) i
    tests i = elim (cases_lt i 64) as (λ _. (ltb i 64 && contains (gathered max word) (64 * k + i)) ≡ contains (word k) i) [
      | inl h ↦ ap (λ b. b && contains (gathered max word) (64 * k + i)) (lt-ltb i 64 h) ∙ at i h ∙ here i
      | inr h ↦ ap (λ b. b && contains (gathered max word) (64 * k + i)) (le-ltb i 64 h) ∙ sym (past i h)
    ]
      where
        past : (i : ℕ) → 64 ≤ i → contains (word k) i ≡ false
        past i h = elim (contains (word k) i) as (λ b. contains (word k) i ≡ b → b ≡ false) [
          | true ↦ λ t. absurd (not_short (are.short k i t) h)
          | false ↦ λ t. refl
        ] refl
          where
            not_short : i < 64 → 64 ≤ i → ⊥
            not_short l g = omega arith

-- ---- one word changed

pub word_at_set : (words : List Numbers) (k : ℕ) (w : Numbers) (j : ℕ) → k < length words → word_at (set words k w) j ≡ cond (eqb j k) w (word_at words j)
word_at_set words k w j within = elim (cases_eq j k) as (λ _. word_at (set words k w) j ≡ cond (eqb j k) w (word_at words j)) [
  | inl h ↦ rw (eq-eqb j k h) (ap (word_at (set words k w)) h ∙ get_or-set_same words k w empty within)
  | inr h ↦ rw (ne_eqb j k h) (get_or-set_other words k j w empty h)
]

-- the words before and after word k was changed
pub record Changes (word word' : ℕ → Numbers) (k : ℕ) (w : Numbers) : Type 0 where
  pub each : (j : ℕ) → word' j ≡ cond (eqb j k) w (word j)

apart : (e el : ℕ) → e / 64 ≡ el / 64 → (e ≡ el → ⊥) → e % 64 ≡ el % 64 → ⊥
apart e el p n r = n (omega arith)

module _ (max el : ℕ) (word word' : ℕ → Numbers) (within : el < max) where
  abbrev inserted : Type 0
  inserted = Changes word word' (el / 64) (insert (word (el / 64)) (el % 64))

  abbrev removed : Type 0
  removed = Changes word word' (el / 64) (remove (word (el / 64)) (el % 64))

  pub gathered-insert : inserted → gathered max word' ≡ insert (gathered max word) el
  gathered-insert ch = alike _ _ (λ e. contains_gathered max word' e ∙ tests e ∙ ap (λ b. nat_eq e el || b) (sym (contains_gathered max word e)) ∙ sym (contains_insert (gathered max word) el e))
    where
      other : (e : ℕ) → (e ≡ el → ⊥) → contains (word' (e / 64)) (e % 64) ≡ contains (word (e / 64)) (e % 64)
      other e n = elim (cases_eq (e / 64) (el / 64)) as (λ _. contains (word' (e / 64)) (e % 64) ≡ contains (word (e / 64)) (e % 64)) [
        | inl p ↦ ap (λ s. contains s (e % 64)) (ch.each (e / 64) ∙ ap (λ b. cond b (insert (word (el / 64)) (el % 64)) (word (e / 64))) (eq-eqb (e / 64) (el / 64) p))
            ∙ contains_insert (word (el / 64)) (el % 64) (e % 64) ∙ ap (λ b. b || contains (word (el / 64)) (e % 64)) (ne_eqb (e % 64) (el % 64) (apart e el p n))
            ∙ ap (λ k. contains (word k) (e % 64)) (sym p)
        | inr q ↦ ap (λ s. contains s (e % 64)) (ch.each (e / 64) ∙ ap (λ b. cond b (insert (word (el / 64)) (el % 64)) (word (e / 64))) (ne_eqb (e / 64) (el / 64) q))
      ]

      there : contains (word' (el / 64)) (el % 64) ≡ true
      there = ap (λ s. contains s (el % 64)) (ch.each (el / 64) ∙ ap (λ b. cond b (insert (word (el / 64)) (el % 64)) (word (el / 64))) (eq-eqb (el / 64) (el / 64) refl))
          ∙ contains_insert (word (el / 64)) (el % 64) (el % 64) ∙ ap (λ b. b || contains (word (el / 64)) (el % 64)) (eq-eqb (el % 64) (el % 64) refl)

      tests : (e : ℕ) → (ltb e max && contains (word' (e / 64)) (e % 64)) ≡ (nat_eq e el || (ltb e max && contains (word (e / 64)) (e % 64)))
      tests e = elim (cases_eq e el) as (λ _. (ltb e max && contains (word' (e / 64)) (e % 64)) ≡ (nat_eq e el || (ltb e max && contains (word (e / 64)) (e % 64)))) [
        | inl p ↦ rw (eq-eqb e el p) (ap (λ x. ltb x max && contains (word' (x / 64)) (x % 64)) p ∙ (λ i. lt-ltb el max within i && there i))
        | inr n ↦ rw (ne_eqb e el n) (ap (λ b. ltb e max && b) (other e n))
      ]

  pub AreWords-insert : AreWords max word → inserted → AreWords max word'
  AreWords-insert are ch = record { short = λ k i h. (elements k i (at k i h)).0; within = λ k i h. (elements k i (at k i h)).1 }
    where
      at : (k i : ℕ) → contains (word' k) i ≡ true → contains (cond (eqb k (el / 64)) (insert (word (el / 64)) (el % 64)) (word k)) i ≡ true
      at k i h = ap (λ s. contains s i) (sym (ch.each k)) ∙ h

      elements : (k i : ℕ) → contains (cond (eqb k (el / 64)) (insert (word (el / 64)) (el % 64)) (word k)) i ≡ true → (i < 64) × (64 * k + i < max)
      elements k i = elim (eqb k (el / 64)) as (λ b. eqb k (el / 64) ≡ b → contains (cond b (insert (word (el / 64)) (el % 64)) (word k)) i ≡ true → (i < 64) × (64 * k + i < max)) [
        | true ↦ λ p h. elim (or_cases (nat_eq i (el % 64)) (contains (word (el / 64)) i) (sym (contains_insert (word (el / 64)) (el % 64) i) ∙ h)) as (λ _. (i < 64) × (64 * k + i < max)) [
          | inl q ↦ new_one k i (eqb-true k (el / 64) p) (eqb-true i (el % 64) q)
          | inr q ↦ let q' : contains (word k) i ≡ true = ap (λ j. contains (word j) i) (eqb-true k (el / 64) p) ∙ q in (are.short k i q', are.within k i q')
        ]
        | false ↦ λ p h. (are.short k i h, are.within k i h)
      ] refl
        where
          new_one : (k i : ℕ) → k ≡ el / 64 → i ≡ el % 64 → (i < 64) × (64 * k + i < max)
          new_one k i p q = (omega arith, omega arith)

  pub gathered-remove : removed → gathered max word' ≡ remove (gathered max word) el
  gathered-remove ch = alike _ _ (λ e. contains_gathered max word' e ∙ tests e ∙ ap (λ b. not (nat_eq e el) && b) (sym (contains_gathered max word e)) ∙ sym (contains_remove (gathered max word) el e))
    where
      other : (e : ℕ) → (e ≡ el → ⊥) → contains (word' (e / 64)) (e % 64) ≡ contains (word (e / 64)) (e % 64)
      other e n = elim (cases_eq (e / 64) (el / 64)) as (λ _. contains (word' (e / 64)) (e % 64) ≡ contains (word (e / 64)) (e % 64)) [
        | inl p ↦ ap (λ s. contains s (e % 64)) (ch.each (e / 64) ∙ ap (λ b. cond b (remove (word (el / 64)) (el % 64)) (word (e / 64))) (eq-eqb (e / 64) (el / 64) p))
            ∙ contains_remove (word (el / 64)) (el % 64) (e % 64) ∙ ap (λ b. not b && contains (word (el / 64)) (e % 64)) (ne_eqb (e % 64) (el % 64) (apart e el p n))
            ∙ ap (λ k. contains (word k) (e % 64)) (sym p)
        | inr q ↦ ap (λ s. contains s (e % 64)) (ch.each (e / 64) ∙ ap (λ b. cond b (remove (word (el / 64)) (el % 64)) (word (e / 64))) (ne_eqb (e / 64) (el / 64) q))
      ]

      gone : contains (word' (el / 64)) (el % 64) ≡ false
      gone = ap (λ s. contains s (el % 64)) (ch.each (el / 64) ∙ ap (λ b. cond b (remove (word (el / 64)) (el % 64)) (word (el / 64))) (eq-eqb (el / 64) (el / 64) refl))
          ∙ contains_remove (word (el / 64)) (el % 64) (el % 64) ∙ ap (λ b. not b && contains (word (el / 64)) (el % 64)) (eq-eqb (el % 64) (el % 64) refl)

      tests : (e : ℕ) → (ltb e max && contains (word' (e / 64)) (e % 64)) ≡ (not (nat_eq e el) && (ltb e max && contains (word (e / 64)) (e % 64)))
      tests e = elim (cases_eq e el) as (λ _. (ltb e max && contains (word' (e / 64)) (e % 64)) ≡ (not (nat_eq e el) && (ltb e max && contains (word (e / 64)) (e % 64)))) [
        | inl p ↦ rw (eq-eqb e el p) (ap (λ x. ltb e max && contains (word' (x / 64)) (x % 64)) p ∙ ap (λ b. ltb e max && b) gone ∙ and_right (ltb e max) false refl)
        | inr n ↦ rw (ne_eqb e el n) (ap (λ b. ltb e max && b) (other e n))
      ]

  pub AreWords-remove : AreWords max word → removed → AreWords max word'
  AreWords-remove are ch = record { short = λ k i h. are.short k i (kept k i h); within = λ k i h. are.within k i (kept k i h) }
    where
      kept : (k i : ℕ) → contains (word' k) i ≡ true → contains (word k) i ≡ true
      kept k i h = shown (eqb k (el / 64)) refl (ap (λ s. contains s i) (sym (ch.each k)) ∙ h)
        where
          shown : (b : Bool) → eqb k (el / 64) ≡ b → contains (cond b (remove (word (el / 64)) (el % 64)) (word k)) i ≡ true → contains (word k) i ≡ true
          shown true p h = ap (λ j. contains (word j) i) (eqb-true k (el / 64) p) ∙ (and_parts (not (nat_eq i (el % 64))) (contains (word (el / 64)) i) (sym (contains_remove (word (el / 64)) (el % 64) i) ∙ h)).1
          shown false p h = h

-- ---- all words changed

module _ (max : ℕ) (left right word : ℕ → Numbers) where
  pub gathered-union : ((k : ℕ) → word k ≡ union (left k) (right k)) → gathered max word ≡ union (gathered max left) (gathered max right)
  gathered-union each = alike _ _ (λ e. contains_gathered max word e ∙ ap (λ b. ltb e max && b) (ap (λ s. contains s (e % 64)) (each (e / 64)) ∙ contains_union (left (e / 64)) (right (e / 64)) (e % 64))
      ∙ split (ltb e max) (contains (left (e / 64)) (e % 64)) (contains (right (e / 64)) (e % 64))
      ∙ (λ i. sym (contains_gathered max left e) i || sym (contains_gathered max right e) i) ∙ sym (contains_union (gathered max left) (gathered max right) e))
    where
      split : (l p q : Bool) → (l && (p || q)) ≡ ((l && p) || (l && q))
      split true p q = refl
      split false p q = refl

  pub gathered-intersection : ((k : ℕ) → word k ≡ intersection (left k) (right k)) → gathered max word ≡ intersection (gathered max left) (gathered max right)
  gathered-intersection each = alike _ _ (λ e. contains_gathered max word e ∙ ap (λ b. ltb e max && b) (ap (λ s. contains s (e % 64)) (each (e / 64)) ∙ contains_intersection (left (e / 64)) (right (e / 64)) (e % 64))
      ∙ split (ltb e max) (contains (left (e / 64)) (e % 64)) (contains (right (e / 64)) (e % 64))
      ∙ (λ i. sym (contains_gathered max left e) i && sym (contains_gathered max right e) i) ∙ sym (contains_intersection (gathered max left) (gathered max right) e))
    where
      split : (l p q : Bool) → (l && (p && q)) ≡ ((l && p) && (l && q))
      split true p q = refl
      split false p q = refl

  pub AreWords-union : AreWords max left → AreWords max right → ((k : ℕ) → word k ≡ union (left k) (right k)) → AreWords max word
  AreWords-union l r each = record { short = λ k i h. (found k i h).0; within = λ k i h. (found k i h).1 }
    where
      found : (k i : ℕ) → contains (word k) i ≡ true → (i < 64) × (64 * k + i < max)
      found k i h = elim (or_cases (contains (left k) i) (contains (right k) i) (sym (ap (λ s. contains s i) (each k) ∙ contains_union (left k) (right k) i) ∙ h)) as (λ _. (i < 64) × (64 * k + i < max)) [
        | inl p ↦ (l.short k i p, l.within k i p)
        | inr p ↦ (r.short k i p, r.within k i p)
      ]

  pub AreWords-intersection : AreWords max left → ((k : ℕ) → word k ≡ intersection (left k) (right k)) → AreWords max word
  AreWords-intersection l each = record { short = λ k i h. l.short k i (found k i h); within = λ k i h. l.within k i (found k i h) }
    where
      found : (k i : ℕ) → contains (word k) i ≡ true → contains (left k) i ≡ true
      found k i h = (and_parts (contains (left k) i) (contains (right k) i) (sym (ap (λ s. contains s i) (each k) ∙ contains_intersection (left k) (right k) i) ∙ h)).0

-- ---- how many

-- the elements of word n
nth_word : (n : ℕ) (word : ℕ → Numbers) → IsBelow 64 (word n) → length (filter (is_in word) (range_with_len (64 * n) 64)) ≡ len (word n)
unfolding rising
nth_word n word short =
    ap (λ a. length (filter (is_in word) (range_with_len a 64))) (sym (add-zero (64 * n)))
    ∙ ap length (filter_moved (is_in word) (64 * n) 0 64)
    ∙ length-map (filter (λ i. is_in word (64 * n + i)) (range_with_len 0 64)) (λ i. 64 * n + i)
    ∙ ap length (filter_same (λ i. is_in word (64 * n + i)) (contains (word n)) 0 64 (λ i from until. (λ j. contains (word (place n i until j)) (rest n i until j))))
    ∙ length-rising 64 (word n) short

total_counts : (n : ℕ) (word : ℕ → Numbers) → ((k : ℕ) → IsBelow 64 (word k)) → length (filter (is_in word) (range_with_len 0 (64 * n))) ≡ total n word
total_counts zero word short = refl
total_counts (suc n) word short =
    let more : 64 * suc n ≡ 64 * n + 64 = omega arith in
    ap (λ m. length (filter (is_in word) (range_with_len 0 m))) more ∙ ap length (filter_parts (is_in word) 0 (64 * n) 64)
    ∙ length-append (filter (is_in word) (range_with_len 0 (64 * n))) (filter (is_in word) (range_with_len (0 + 64 * n) 64))
    ∙ ap (λ a. length (filter (is_in word) (range_with_len 0 (64 * n))) + length (filter (is_in word) (range_with_len a 64))) (zero-add (64 * n))
    ∙ (λ i. total_counts n word short i + nth_word n word (short n) i)

-- the numbers from max on pass no test
pub beyond : (max n : ℕ) (word : ℕ → Numbers) → AreWords max word → max ≤ 64 * n → filter (is_in word) (range_with_len 0 (64 * n)) ≡ filter (is_in word) (range_with_len 0 max)
beyond max n word are enough =
    let whole : 64 * n ≡ max + (64 * n - max) = omega arith in
    ap (λ m. filter (is_in word) (range_with_len 0 m)) whole ∙ filter_parts (is_in word) 0 max (64 * n - max)
    ∙ ap (λ xs. filter (is_in word) (range_with_len 0 max) ++ xs) (filter_none (is_in word) (0 + max) (64 * n - max) (λ i from until. past i (omega arith)))
    ∙ append-nil (filter (is_in word) (range_with_len 0 max))
  where
    past : (i : ℕ) → max ≤ i → is_in word i ≡ false
    past i h = elim (is_in word i) as (λ b. is_in word i ≡ b → b ≡ false) [
      | true ↦ λ t. absurd (out (are.within (i / 64) (i % 64) t))
      | false ↦ λ t. refl
    ] refl
      where
        out : 64 * (i / 64) + i % 64 < max → ⊥
        out l = omega arith

pub total-len : (max n : ℕ) (word : ℕ → Numbers) → AreWords max word → max ≤ 64 * n → total n word ≡ len (gathered max word)
unfolding gathered
total-len max n word are enough =
    sym (total_counts n word are.short) ∙ ap length (beyond max n word are enough) ∙ sym (len_below_where max (is_in word))

-- ---- all words made anew

pub AreWords-empty : (max : ℕ) (word : ℕ → Numbers) → ((k : ℕ) → word k ≡ empty) → AreWords max word
AreWords-empty max word none = record { short = λ k i h. absurd (no_element k i h); within = λ k i h. absurd (no_element k i h) }
  where
    no_element : (k i : ℕ) → contains (word k) i ≡ true → ⊥
    no_element k i h = false≢true (sym (ap (λ s. contains s i) (none k) ∙ contains_empty i) ∙ h)

pub gathered-empty : (max : ℕ) (word : ℕ → Numbers) → ((k : ℕ) → word k ≡ empty) → gathered max word ≡ empty
gathered-empty max word none = alike _ _ (λ e. contains_gathered max word e ∙ ap (λ b. ltb e max && b) (ap (λ s. contains s (e % 64)) (none (e / 64)) ∙ contains_empty (e % 64)) ∙ and_right (ltb e max) false refl ∙ sym (contains_empty e))

-- element e of a word has room exactly where e is below max
has_room : (max e : ℕ) → ltb (e % 64) (room max (e / 64)) ≡ ltb e max
has_room max e = elim (cases_lt e max) as (λ _. ltb (e % 64) (room max (e / 64)) ≡ ltb e max) [
  | inl h ↦ lt-ltb (e % 64) (room max (e / 64)) (omega arith) ∙ sym (lt-ltb e max h)
  | inr h ↦ le-ltb (e % 64) (room max (e / 64)) (omega arith) ∙ sym (le-ltb e max h)
]

pub AreWords-room : (max : ℕ) (word : ℕ → Numbers) → ((k : ℕ) → IsBelow (room max k) (word k)) → AreWords max word
AreWords-room max word each = record { short = λ k i h. short k i (each k i h); within = λ k i h. within k i (each k i h) }
  where
    short : (k i : ℕ) → i < room max k → i < 64
    short k i h = omega arith

    within : (k i : ℕ) → i < room max k → 64 * k + i < max
    within k i h = omega arith

pub gathered-complement : (max : ℕ) (old word : ℕ → Numbers) → ((k : ℕ) → word k ≡ difference (below (room max k)) (old k)) → gathered max word ≡ difference (below max) (gathered max old)
gathered-complement max old word each = alike _ _ (λ e. contains_gathered max word e ∙ ap (λ b. ltb e max && b) (at e) ∙ tests (ltb e max) (contains (old (e / 64)) (e % 64))
    ∙ (λ i. sym (contains_below max e) i && not (sym (contains_gathered max old e) i)) ∙ sym (contains_difference (below max) (gathered max old) e))
  where
    at : (e : ℕ) → contains (word (e / 64)) (e % 64) ≡ (ltb e max && not (contains (old (e / 64)) (e % 64)))
    at e = ap (λ s. contains s (e % 64)) (each (e / 64)) ∙ contains_difference (below (room max (e / 64))) (old (e / 64)) (e % 64)
        ∙ ap (λ b. b && not (contains (old (e / 64)) (e % 64))) (contains_below (room max (e / 64)) (e % 64) ∙ has_room max e)

    tests : (l p : Bool) → (l && (l && not p)) ≡ (l && not (l && p))
    tests true p = refl
    tests false p = refl

pub gathered-full : (max : ℕ) (word : ℕ → Numbers) → ((k : ℕ) → word k ≡ below (room max k)) → gathered max word ≡ below max
gathered-full max word each = alike _ _ (λ e. contains_gathered max word e ∙ ap (λ b. ltb e max && b) (ap (λ s. contains s (e % 64)) (each (e / 64)) ∙ contains_below (room max (e / 64)) (e % 64) ∙ has_room max e)
    ∙ twice (ltb e max) ∙ sym (contains_below max e))
  where
    twice : (l : Bool) → (l && l) ≡ l
    twice true = refl
    twice false = refl

-- ---- the last word cut at the bound

module _ (words : List Numbers) (max : ℕ) (long : length words ≡ div_ceil max 64) (short : (k : ℕ) → IsBelow 64 (word_at words k)) where
  abbrev Trimmed : ℕ → Type 0
  Trimmed k = word_at words k ≡ intersection (word_at words k) (below (room max k))

  whole : (k : ℕ) → room max k ≡ 64 → Trimmed k
  whole k r = sym (ap (λ n. intersection (word_at words k) (below n)) r ∙ intersection-below 64 (word_at words k) (short k))

  past : (k : ℕ) → length words ≤ k → Trimmed k
  past k h = let none = get_or_past words k empty h in
      none ∙ sym (intersection-nothing (below (room max k))) ∙ ap (λ s. intersection s (below (room max k))) (sym none)

  pub trim_none : max % 64 ≡ 0 → (k : ℕ) → word_at words k ≡ intersection (word_at words k) (below (room max k))
  trim_none even k = elim (cases_lt k (length words)) as (λ _. Trimmed k) [
    | inl h ↦ whole k (omega arith)
    | inr h ↦ past k h
  ]

  pub trim_last : (x r w : Numbers) → (max % 64 ≡ 0 → ⊥) → x ≡ get_or words (length words - 1) x → r ≡ below (max % 64) → w ≡ intersection x r
      → (k : ℕ) → word_at (set words (length words - 1) w) k ≡ intersection (word_at words k) (below (room max k))
  trim_last x r w odd read cut is k = elim (cases_eq k (length words - 1)) as (λ _. word_at (set words (length words - 1) w) k ≡ intersection (word_at words k) (below (room max k))) [
    | inl h ↦ ap (word_at (set words (length words - 1) w)) h ∙ get_or-set_same words (length words - 1) w empty (omega arith) ∙ is
        ∙ (λ i. intersection ((read ∙ get_or_default words (length words - 1) x empty (omega arith) ∙ ap (word_at words) (sym h)) i) ((cut ∙ ap below (here h)) i))
    | inr h ↦ get_or-set_other words (length words - 1) k w empty h ∙ elim (cases_lt k (length words)) as (λ _. Trimmed k) [
      | inl l ↦ whole k (omega arith)
      | inr g ↦ past k g
    ]
  ]
    where
      here : k ≡ length words - 1 → max % 64 ≡ room max k
      here h = omega arith
