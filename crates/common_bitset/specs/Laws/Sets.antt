-- Laws of finite sets of numbers: what each operation contains, how many there are, and their rising list. A reader of contracts may skip this file.
use Rattle.std.proofs.Common.{◌≡◌, ℕ, zero, suc, ◌+◌, ◌<◌, ◌&&◌, ◌||◌, not, Bool, true, false, cond, [], ◌∷◌, refl, sym, ap, ◌∙◌, arith, nat_eq, ltb, inl, inr, length, filter, ◌++◌, length-append, append-nil, zero-add, add-one, ◌≤◌}
use Rattle.std.specs.Ordering.{nat_cmp}
use Rattle.std.specs.Bool.{Decides}
use Rattle.std.specs.Cmp.{nat_cmp_total, unsigned_tied, both_ways, IsEquivalence, decided}
use Rattle.std.specs.FinSet.{empty, insert, remove, contains, union, intersection, difference, len, contains-empty, contains-insert, contains-remove, contains-retain, len-insert, len-empty, is_subset, is_subset-contains, contains-is_subset, contains-union, contains-intersection, contains-difference, same_set, nat_cmp-IsAntisymmetric}
use Rattle.std.proofs.lemmas.Bool.{and_parts, and_from, and_right, not_from_false, not-true, cases_eq, cases_lt, le-ltb, lt-ltb, ltb-true, eq-eqb, ne_eqb, false≢true}
use Rattle.std.proofs.lemmas.Bool.Decides.{nat_tests}
use Rattle.std.specs.List.{range_with_len}
use Rattle.std.proofs.lemmas.List.Filters.{length-filter_both}
use Rattle.std.proofs.lemmas.List.FromFn.{length-range_with_len}
use Rattle.common_bitset.specs.Laws.Ranges.{range_more, filter_more, filter_same, filter_none, filter_first}
use Rattle.common_bitset.specs.Numbers.{Numbers, below, below_where, IsBelow, rising, same, IsLeast}

-- two sets with the same elements are equal
pub alike : (s t : Numbers) → ((e : ℕ) → contains s e ≡ contains t e) → s ≡ t
alike s t each = same_set nat_cmp_total nat_cmp-IsAntisymmetric s t each

pub contains_insert : (s : Numbers) (k e : ℕ) → contains (insert s k) e ≡ (nat_eq e k || contains s e)
contains_insert s k e = contains-insert nat_cmp_total s k e ∙ ap (λ b. b || contains s e) (unsigned_tied e k)

pub contains_remove : (s : Numbers) (k e : ℕ) → contains (remove s k) e ≡ (not (nat_eq e k) && contains s e)
contains_remove s k e = contains-remove nat_cmp_total s k e ∙ ap (λ b. not b && contains s e) (unsigned_tied e k)

pub contains_below : (n e : ℕ) → contains (below n) e ≡ ltb e n
unfolding below
contains_below zero e = contains-empty nat_cmp e ∙ sym (le-ltb e 0 (omega arith))
contains_below (suc n) e =
    contains_insert (below n) n e ∙ ap (λ b. nat_eq e n || b) (contains_below n e) ∙ grown e n
  where
    grown : (e n : ℕ) → (nat_eq e n || ltb e n) ≡ ltb e (suc n)
    grown e n = grind (arith, nat_tests)

pub contains_below_where : (n : ℕ) (p : ℕ → Bool) (e : ℕ) → contains (below_where n p) e ≡ (ltb e n && p e)
unfolding below_where
contains_below_where n p e =
    contains-retain (below n) p e (λ x t. ap p (sym (nat_cmp-IsAntisymmetric e x t)))
    ∙ ap (λ b. b && p e) (contains_below n e)

pub contains_union : (s t : Numbers) (e : ℕ) → contains (union s t) e ≡ (contains s e || contains t e)
contains_union = contains-union nat_cmp_total

pub contains_intersection : (s t : Numbers) (e : ℕ) → contains (intersection s t) e ≡ (contains s e && contains t e)
contains_intersection = contains-intersection nat_cmp_total

pub contains_difference : (s t : Numbers) (e : ℕ) → contains (difference s t) e ≡ (contains s e && not (contains t e))
contains_difference = contains-difference nat_cmp_total

pub contains_empty : (e : ℕ) → contains (empty {R = nat_cmp}) e ≡ false
contains_empty = contains-empty nat_cmp

pub IsBelow-below_where : (n : ℕ) (p : ℕ → Bool) → IsBelow n (below_where n p)
IsBelow-below_where n p e h = ltb-true e n (and_parts (ltb e n) (p e) (sym (contains_below_where n p e) ∙ h)).0

-- what a set below n contains, as a test of the numbers below n
pub below_where_of : (n : ℕ) (s : Numbers) → IsBelow n s → below_where n (contains s) ≡ s
below_where_of n s within =
    alike _ s (λ e. contains_below_where n (contains s) e ∙ narrowed e)
  where
    narrowed : (e : ℕ) → (ltb e n && contains s e) ≡ contains s e
    narrowed e = elim (contains s e) as (λ b. contains s e ≡ b → (ltb e n && b) ≡ b) [
      | true ↦ λ h. ap (λ b. b && true) (lt-ltb e n (within e h))
      | false ↦ λ h. and_right (ltb e n) false refl
    ] refl

pub below_where_same : (n : ℕ) (p q : ℕ → Bool) → ((e : ℕ) → e < n → p e ≡ q e) → below_where n p ≡ below_where n q
below_where_same n p q agree =
    alike _ _ (λ e. contains_below_where n p e ∙ tests e ∙ sym (contains_below_where n q e))
  where
    tests : (e : ℕ) → (ltb e n && p e) ≡ (ltb e n && q e)
    tests e = elim (ltb e n) as (λ b. ltb e n ≡ b → (b && p e) ≡ (b && q e)) [
      | true ↦ λ h. agree e (ltb-true e n h)
      | false ↦ λ h. refl
    ] refl

-- ---- how many

pub one_more : (n : ℕ) (p : ℕ → Bool) → p n ≡ true → below_where (suc n) p ≡ insert (below_where n p) n
one_more n p here = alike _ _ (λ e. contains_below_where (suc n) p e ∙ grown e ∙ ap (λ b. nat_eq e n || b) (sym (contains_below_where n p e)) ∙ sym (contains_insert (below_where n p) n e))
  where
    grown : (e : ℕ) → (ltb e (suc n) && p e) ≡ (nat_eq e n || (ltb e n && p e))
    grown e = elim (cases_eq e n) as (λ _. (ltb e (suc n) && p e) ≡ (nat_eq e n || (ltb e n && p e))) [
      | inl h ↦ rw (lt-ltb e (suc n) (omega arith), eq-eqb e n h) (ap p h ∙ here)
      | inr h ↦ rw (ne_eqb e n h) (elim (cases_lt e n) as (λ _. (ltb e (suc n) && p e) ≡ (ltb e n && p e)) [
        | inl l ↦ rw (lt-ltb e (suc n) (omega arith), lt-ltb e n l) refl
        | inr l ↦ rw (le-ltb e (suc n) (omega arith), le-ltb e n l) refl
      ])
    ]

pub no_more : (n : ℕ) (p : ℕ → Bool) → p n ≡ false → below_where (suc n) p ≡ below_where n p
no_more n p here = alike _ _ (λ e. contains_below_where (suc n) p e ∙ kept e ∙ sym (contains_below_where n p e))
  where
    kept : (e : ℕ) → (ltb e (suc n) && p e) ≡ (ltb e n && p e)
    kept e = elim (cases_eq e n) as (λ _. (ltb e (suc n) && p e) ≡ (ltb e n && p e)) [
      | inl h ↦ rw (le-ltb e n (omega arith)) (and_right (ltb e (suc n)) (p e) (ap p h ∙ here))
      | inr h ↦ elim (cases_lt e n) as (λ _. (ltb e (suc n) && p e) ≡ (ltb e n && p e)) [
        | inl l ↦ rw (lt-ltb e (suc n) (omega arith), lt-ltb e n l) refl
        | inr l ↦ rw (le-ltb e (suc n) (omega arith), le-ltb e n l) refl
      ]
    ]

pub len_below_where : (n : ℕ) (p : ℕ → Bool) → len (below_where n p) ≡ length (filter p (range_with_len 0 n))
len_below_where zero p = ap len (alike _ empty (λ e. contains_below_where 0 p e ∙ ap (λ b. b && p e) (le-ltb e 0 (omega arith)) ∙ sym (contains_empty e))) ∙ len-empty nat_cmp
len_below_where (suc n) p =
    elim (p n) as (λ b. p n ≡ b → len (below_where (suc n) p) ≡ length (filter p (range_with_len 0 (suc n)))) [
      | true ↦ λ h.
          let absent : contains (below_where n p) n ≡ false = contains_below_where n p n ∙ ap (λ b. b && p n) (le-ltb n n (omega arith)) in
          ap len (one_more n p h) ∙ len-insert nat_cmp_total (below_where n p) n
          ∙ ap (λ b. cond b (len (below_where n p)) (len (below_where n p) + 1)) absent
          ∙ ap (λ k. k + 1) (len_below_where n p) ∙ sym (length-append (filter p (range_with_len 0 n)) (n ∷ [])) ∙ ap length (sym (more true h))
      | false ↦ λ h. ap len (no_more n p h) ∙ len_below_where n p ∙ ap length (sym (more false h ∙ append-nil (filter p (range_with_len 0 n))))
    ] refl
  where
    more : (b : Bool) → p n ≡ b → filter p (range_with_len 0 (suc n)) ≡ filter p (range_with_len 0 n) ++ cond b (n ∷ []) []
    more b h = ap (filter p) (range_more 0 n) ∙ ap (λ k. filter p (range_with_len 0 n ++ k ∷ [])) (zero-add n) ∙ filter_more p (range_with_len 0 n) n
        ∙ ap (λ t. filter p (range_with_len 0 n) ++ cond t (n ∷ []) []) h

pub length-rising : (n : ℕ) (s : Numbers) → IsBelow n s → length (rising n s) ≡ len s
unfolding rising
length-rising n s within = sym (len_below_where n (contains s)) ∙ ap len (below_where_of n s within)

pub rising_empty : (n : ℕ) → rising n empty ≡ []
unfolding rising
rising_empty n = filter_none (contains empty) 0 n (λ i from until. contains_empty i)

pub rising_of_where : (n : ℕ) (p : ℕ → Bool) → rising n (below_where n p) ≡ filter p (range_with_len 0 n)
unfolding rising
rising_of_where n p = filter_same _ p 0 n (λ i from until. contains_below_where n p i ∙ ap (λ b. b && p i) (lt-ltb i n (omega arith)))

-- the least element comes first in the rising list
pub rising_first : (n m : ℕ) (s : Numbers) → m < n → IsLeast m s → rising n s ≡ m ∷ rising n (remove s m)
unfolding rising
rising_first n m s within least =
    filter_first (contains s) (contains (remove s m)) m 0 n (omega arith) (omega arith) least.here
    (contains_remove s m m ∙ ap (λ b. not b && contains s m) (eq-eqb m m refl))
    least.none_before
    (λ i h. contains_remove s m i ∙ ap (λ b. not (nat_eq i m) && b) (least.none_before i h) ∙ and_right _ false refl)
    (λ i h. sym (contains_remove s m i ∙ ap (λ b. not b && contains s i) (ne_eqb i m (λ e. omega arith))))

-- ---- sets that are the same

pub same-Decides : (s t : Numbers) → Decides (same s t) (s ≡ t)
same-Decides s t = (found, shown)
  where
    found : same s t ≡ true → s ≡ t
    found h =
        let parts = and_parts (is_subset s t) (is_subset t s) h in
        alike s t (λ e. both_ways (contains s e) (contains t e) (is_subset-contains nat_cmp_total s t parts.0 e) (is_subset-contains nat_cmp_total t s parts.1 e))

    shown : s ≡ t → same s t ≡ true
    shown h =
        and_from (is_subset s t) (is_subset t s)
        (contains-is_subset nat_cmp_total s t (λ e here. ap (λ u. contains u e) (sym h) ∙ here))
        (contains-is_subset nat_cmp_total t s (λ e here. ap (λ u. contains u e) h ∙ here))

pub same_equiv : IsEquivalence same
same_equiv = decided same same-Decides

pub same-insert : (s : Numbers) (k : ℕ) → same s (insert s k) ≡ contains s k
same-insert s k = both_ways (same s (insert s k)) (contains s k) there stays
  where
    there : same s (insert s k) ≡ true → contains s k ≡ true
    there h = ap (λ u. contains u k) ((same-Decides s (insert s k)).0 h) ∙ contains_insert s k k ∙ ap (λ b. b || contains s k) (eq-eqb k k refl)

    stays : contains s k ≡ true → same s (insert s k) ≡ true
    stays h = (same-Decides s (insert s k)).1 (alike s (insert s k) (λ e. kept e ∙ sym (contains_insert s k e)))
      where
        kept : (e : ℕ) → contains s e ≡ (nat_eq e k || contains s e)
        kept e = elim (cases_eq e k) as (λ _. contains s e ≡ (nat_eq e k || contains s e)) [
          | inl same_place ↦ rw (eq-eqb e k same_place) (ap (contains s) same_place ∙ h)
          | inr other ↦ rw (ne_eqb e k other) refl
        ]

pub same-remove : (s : Numbers) (k : ℕ) → same s (remove s k) ≡ not (contains s k)
same-remove s k = both_ways (same s (remove s k)) (not (contains s k)) gone stays
  where
    gone : same s (remove s k) ≡ true → not (contains s k) ≡ true
    gone h = not_from_false (contains s k) (ap (λ u. contains u k) ((same-Decides s (remove s k)).0 h) ∙ contains_remove s k k ∙ ap (λ b. not b && contains s k) (eq-eqb k k refl))

    stays : not (contains s k) ≡ true → same s (remove s k) ≡ true
    stays h = (same-Decides s (remove s k)).1 (alike s (remove s k) (λ e. kept e ∙ sym (contains_remove s k e)))
      where
        kept : (e : ℕ) → contains s e ≡ (not (nat_eq e k) && contains s e)
        kept e = elim (cases_eq e k) as (λ _. contains s e ≡ (not (nat_eq e k) && contains s e)) [
          | inl same_place ↦ rw (eq-eqb e k same_place) (ap (contains s) same_place ∙ not-true (contains s k) h)
          | inr other ↦ rw (ne_eqb e k other) refl
        ]

pub twice_not : (b : Bool) → not (not b) ≡ b
twice_not true = refl
twice_not false = refl

-- ---- one set from others

pub difference-empty : (s : Numbers) → difference s empty ≡ s
difference-empty s = alike _ s (λ e. contains_difference s empty e ∙ ap (λ b. contains s e && not b) (contains_empty e) ∙ and_true (contains s e))
  where
    and_true : (b : Bool) → (b && true) ≡ b
    and_true true = refl
    and_true false = refl

pub union-single : (s : Numbers) (k : ℕ) → union s (insert empty k) ≡ insert s k
union-single s k = alike _ _ (λ e. contains_union s (insert empty k) e ∙ ap (λ b. contains s e || b) (contains_insert empty k e ∙ ap (λ b. nat_eq e k || b) (contains_empty e))
    ∙ swapped (contains s e) (nat_eq e k) ∙ sym (contains_insert s k e))
  where
    swapped : (p q : Bool) → (p || (q || false)) ≡ (q || p)
    swapped true true = refl
    swapped true false = refl
    swapped false true = refl
    swapped false false = refl

pub intersection-others : (n k : ℕ) (s : Numbers) → IsBelow n s → intersection s (difference (below n) (insert empty k)) ≡ remove s k
intersection-others n k s within = alike _ _ (λ e. contains_intersection s _ e ∙ ap (λ b. contains s e && b) (contains_difference (below n) (insert empty k) e
    ∙ (λ i. contains_below n e i && not ((contains_insert empty k e ∙ ap (λ b. nat_eq e k || b) (contains_empty e)) i)))
    ∙ tests e ∙ sym (contains_remove s k e))
  where
    plain : (q : Bool) → (true && (true && not (q || false))) ≡ (not q && true)
    plain true = refl
    plain false = refl

    tests : (e : ℕ) → (contains s e && (ltb e n && not (nat_eq e k || false))) ≡ (not (nat_eq e k) && contains s e)
    tests e = elim (contains s e) as (λ b. contains s e ≡ b → (b && (ltb e n && not (nat_eq e k || false))) ≡ (not (nat_eq e k) && b)) [
      | true ↦ λ h. rw (lt-ltb e n (within e h)) (plain (nat_eq e k))
      | false ↦ λ h. sym (and_right (not (nat_eq e k)) false refl)
    ] refl

pub union-empty : union empty empty ≡ empty {R = nat_cmp}
union-empty = alike _ _ (λ e. contains_union empty empty e ∙ (λ i. contains_empty e i || contains_empty e i) ∙ sym (contains_empty e))

pub intersection-empty : intersection empty empty ≡ empty {R = nat_cmp}
intersection-empty = alike _ _ (λ e. contains_intersection empty empty e ∙ (λ i. contains_empty e i && contains_empty e i) ∙ sym (contains_empty e))

pub intersection-nothing : (s : Numbers) → intersection empty s ≡ empty
intersection-nothing s = alike _ _ (λ e. contains_intersection empty s e ∙ ap (λ b. b && contains s e) (contains_empty e) ∙ sym (contains_empty e))

pub intersection-below : (n : ℕ) (s : Numbers) → IsBelow n s → intersection s (below n) ≡ s
intersection-below n s within = alike _ s (λ e. contains_intersection s (below n) e ∙ ap (λ b. contains s e && b) (contains_below n e) ∙ tests e)
  where
    tests : (e : ℕ) → (contains s e && ltb e n) ≡ contains s e
    tests e = elim (contains s e) as (λ b. contains s e ≡ b → (b && ltb e n) ≡ b) [ true ↦ λ h. lt-ltb e n (within e h) | false ↦ λ h. refl ] refl

pub below-zero : below 0 ≡ empty
unfolding below
below-zero = refl

pub IsBelow-below : (m n : ℕ) → m ≤ n → IsBelow n (below m)
IsBelow-below m n h e here = let l : e < m = ltb-true e m (sym (contains_below m e) ∙ here) in omega arith

pub IsBelow-difference : (n : ℕ) (s : Numbers) → IsBelow n (difference (below n) s)
IsBelow-difference n s e here = ltb-true e n (sym (contains_below n e) ∙ (and_parts (contains (below n) e) (not (contains s e)) (sym (contains_difference (below n) s e) ∙ here)).0)

pub IsBelow-empty : (n : ℕ) → IsBelow n empty
IsBelow-empty n e here = absurd (false≢true (sym (contains_empty e) ∙ here))

-- to leave fewer numbers, and not those of s
pub intersection-difference : (m n : ℕ) (s : Numbers) → m ≤ n → intersection (difference (below n) s) (below m) ≡ difference (below m) s
intersection-difference m n s h = alike _ _ (λ e. contains_intersection (difference (below n) s) (below m) e
    ∙ (λ i. (contains_difference (below n) s e ∙ ap (λ b. b && not (contains s e)) (contains_below n e)) i && contains_below m e i)
    ∙ tests e ∙ sym (contains_difference (below m) s e ∙ ap (λ b. b && not (contains s e)) (contains_below m e)))
  where
    swapped : (p : Bool) → (p && true) ≡ p
    swapped true = refl
    swapped false = refl

    tests : (e : ℕ) → ((ltb e n && not (contains s e)) && ltb e m) ≡ (ltb e m && not (contains s e))
    tests e = elim (cases_lt e m) as (λ _. ((ltb e n && not (contains s e)) && ltb e m) ≡ (ltb e m && not (contains s e))) [
      | inl l ↦ rw (lt-ltb e m l, lt-ltb e n (omega arith)) (swapped (not (contains s e)))
      | inr g ↦ rw (le-ltb e m g) (and_right (ltb e n && not (contains s e)) false refl)
    ]

pub difference-none : (s : Numbers) → difference (below 0) s ≡ empty
difference-none s = alike _ _ (λ e. contains_difference (below 0) s e ∙ ap (λ b. b && not (contains s e)) (contains_below 0 e ∙ le-ltb e 0 (omega arith)) ∙ sym (contains_empty e))

pub len_below : (n : ℕ) → len (below n) ≡ n
unfolding below
len_below zero = len-empty nat_cmp
len_below (suc n) = len-insert nat_cmp_total (below n) n ∙ ap (λ b. cond b (len (below n)) (len (below n) + 1)) (contains_below n n ∙ le-ltb n n (omega arith)) ∙ ap (λ k. k + 1) (len_below n) ∙ add-one n

-- a set and its complement have all numbers
pub len-complement : (n : ℕ) (s : Numbers) → IsBelow n s → len s + len (difference (below n) s) ≡ n
len-complement n s within =
    (λ i. (sym (ap len (below_where_of n s within)) ∙ len_below_where n (contains s)) i + (ap len others ∙ len_below_where n (λ e. not (contains s e))) i)
    ∙ length-filter_both (contains s) (λ e. not (contains s e)) (λ e. refl) (range_with_len 0 n) ∙ length-range_with_len 0 n
  where
    others : difference (below n) s ≡ below_where n (λ e. not (contains s e))
    others = alike _ _ (λ e. contains_difference (below n) s e ∙ ap (λ b. b && not (contains s e)) (contains_below n e) ∙ sym (contains_below_where n (λ e. not (contains s e)) e))

pub below_where_none : (p : ℕ → Bool) → below_where 0 p ≡ empty
below_where_none p = alike _ empty (λ e. contains_below_where 0 p e ∙ ap (λ b. b && p e) (le-ltb e 0 (omega arith)) ∙ sym (contains_empty e))
