-- Laws of sets of documents.
use Rattle.std.proofs.Common.{◌≡◌, ℕ, ◌+◌, ◌<◌, ◌&&◌, ◌||◌, not, Bool, true, false, List, [], ◌∷◌, ◌++◌, length, All, refl, sym, ap, ◌∙◌, arith, nat_eq, ltb}
use Rattle.std.specs.Prelude.{◌==◌}
use Rattle.std.specs.Cmp.{nat_cmp_total}
use Rattle.std.specs.FinSet.{empty, insert, contains, union, intersection, difference, from_list, from_list_push, nat_cmp-IsAntisymmetric}
use Rattle.std.proofs.lemmas.Bool.{lt-ltb, ltb-true, false≢true, eqb-true}
use Rattle.std.proofs.lemmas.List.Elements.{All-head, All-tail}
use Rattle.common_bitset.specs.Numbers.{Numbers, below, IsBelow}
use Rattle.common_bitset.specs.Laws.Sets.{alike, contains_insert, contains_below, contains_union, contains_intersection, contains_difference, contains_empty}
use Rattle.document_sets.specs.Members.{with_numbers}

-- ---- elements that pass a test are below a bound

or_false : (b : Bool) → (b || false) ≡ b
or_false true = refl
or_false false = refl

or_same : (b c : Bool) → (b ≡ true → c ≡ true) → (c || b) ≡ c
or_same true c h = ap (λ d. d || true) (h refl) ∙ sym (h refl)
or_same false true h = refl
or_same false false h = refl

or_swapped : (b c : Bool) → (b ≡ true → c ≡ true) → (b || c) ≡ c
or_swapped true c h = sym (h refl)
or_swapped false c h = refl

and_same : (b c : Bool) → (b ≡ true → c ≡ true) → (c && b) ≡ b
and_same true c h = ap (λ d. d && true) (h refl)
and_same false true h = refl
and_same false false h = refl

and_swapped : (b c : Bool) → (b ≡ true → c ≡ true) → (b && c) ≡ b
and_swapped true c h = h refl
and_swapped false c h = refl

pub or_cases : (b c : Bool) {P : Type 0} → (b ≡ true → P) → (c ≡ true → P) → (b || c) ≡ true → P
or_cases true c left right h = left refl
or_cases false c left right h = right h

and_first : (b c : Bool) → (b && c) ≡ true → b ≡ true
and_first true c h = refl
and_first false c h = h

within_test : (n : ℕ) (s : Numbers) → IsBelow n s → (e : ℕ) → contains s e ≡ true → ltb e n ≡ true
within_test n s within e h = lt-ltb e n (within e h)

-- ---- with the empty set and the full one

pub union-none : (s : Numbers) → union s empty ≡ s
union-none s = alike _ s (λ e. contains_union s empty e ∙ ap (λ b. contains s e || b) (contains_empty e) ∙ or_false (contains s e))

pub none-union : (s : Numbers) → union empty s ≡ s
none-union s = alike _ s (λ e. contains_union empty s e ∙ ap (λ b. b || contains s e) (contains_empty e))

pub union-full : (n : ℕ) (s : Numbers) → IsBelow n s → union s (below n) ≡ below n
union-full n s within = alike _ (below n) (λ e.
    contains_union s (below n) e ∙ ap (λ b. contains s e || b) (contains_below n e)
    ∙ or_swapped (contains s e) (ltb e n) (within_test n s within e) ∙ sym (contains_below n e))

pub full-union : (n : ℕ) (s : Numbers) → IsBelow n s → union (below n) s ≡ below n
full-union n s within = alike _ (below n) (λ e.
    contains_union (below n) s e ∙ ap (λ b. b || contains s e) (contains_below n e)
    ∙ or_same (contains s e) (ltb e n) (within_test n s within e) ∙ sym (contains_below n e))

pub none-intersection : (s : Numbers) → intersection empty s ≡ empty
none-intersection s = alike _ empty (λ e. contains_intersection empty s e ∙ ap (λ b. b && contains s e) (contains_empty e) ∙ sym (contains_empty e))

and_false : (b : Bool) → (b && false) ≡ false
and_false true = refl
and_false false = refl

pub intersection-none : (s : Numbers) → intersection s empty ≡ empty
intersection-none s = alike _ empty (λ e. contains_intersection s empty e ∙ ap (λ b. contains s e && b) (contains_empty e) ∙ and_false (contains s e) ∙ sym (contains_empty e))

pub intersection-full : (n : ℕ) (s : Numbers) → IsBelow n s → intersection s (below n) ≡ s
intersection-full n s within = alike _ s (λ e.
    contains_intersection s (below n) e ∙ ap (λ b. contains s e && b) (contains_below n e)
    ∙ and_swapped (contains s e) (ltb e n) (within_test n s within e))

pub full-intersection : (n : ℕ) (s : Numbers) → IsBelow n s → intersection (below n) s ≡ s
full-intersection n s within = alike _ s (λ e.
    contains_intersection (below n) s e ∙ ap (λ b. b && contains s e) (contains_below n e)
    ∙ and_same (contains s e) (ltb e n) (within_test n s within e))

and_not : (b : Bool) → (b && not b) ≡ false
and_not true = refl
and_not false = refl

pub full-difference : (n : ℕ) → difference (below n) (below n) ≡ empty
full-difference n = alike _ empty (λ e. contains_difference (below n) (below n) e ∙ and_not (contains (below n) e) ∙ sym (contains_empty e))

pub intersection-complement : (n : ℕ) (s t : Numbers) → IsBelow n s → intersection s (difference (below n) t) ≡ difference s t
intersection-complement n s t within = alike _ _ (λ e.
    contains_intersection s (difference (below n) t) e
    ∙ ap (λ b. contains s e && b) (contains_difference (below n) t e ∙ ap (λ b. b && not (contains t e)) (contains_below n e))
    ∙ dropped (contains s e) (ltb e n) (not (contains t e)) (within_test n s within e)
    ∙ sym (contains_difference s t e))
  where
    dropped : (a b c : Bool) → (a ≡ true → b ≡ true) → (a && (b && c)) ≡ (a && c)
    dropped true b c h = ap (λ d. d && c) (h refl)
    dropped false b c h = refl

pub difference-full : (n : ℕ) (s : Numbers) → IsBelow n s → difference s (below n) ≡ empty
difference-full n s within = alike _ empty (λ e.
    contains_difference s (below n) e ∙ ap (λ b. contains s e && not b) (contains_below n e)
    ∙ nothing_left (contains s e) (ltb e n) (within_test n s within e) ∙ sym (contains_empty e))
  where
    nothing_left : (a b : Bool) → (a ≡ true → b ≡ true) → (a && not b) ≡ false
    nothing_left true b h = ap not (h refl)
    nothing_left false b h = refl

-- ---- the elements stay below the bound

pub IsBelow-full : (n : ℕ) → IsBelow n (below n)
IsBelow-full n e h = ltb-true e n (sym (contains_below n e) ∙ h)

pub IsBelow-none : (n : ℕ) → IsBelow n empty
IsBelow-none n e h = absurd (false≢true (sym (contains_empty e) ∙ h))

pub IsBelow-union : (n : ℕ) (s t : Numbers) → IsBelow n s → IsBelow n t → IsBelow n (union s t)
IsBelow-union n s t left right e h = or_cases (contains s e) (contains t e) (left e) (right e) (sym (contains_union s t e) ∙ h)

pub IsBelow-intersection : (n : ℕ) (s t : Numbers) → IsBelow n s → IsBelow n (intersection s t)
IsBelow-intersection n s t left e h = left e (and_first (contains s e) (contains t e) (sym (contains_intersection s t e) ∙ h))

pub IsBelow-complement : (n : ℕ) (s : Numbers) → IsBelow n (difference (below n) s)
IsBelow-complement n s e h =
    IsBelow-full n e (and_first (contains (below n) e) (not (contains s e)) (sym (contains_difference (below n) s e) ∙ h))

pub IsBelow-insert : (n : ℕ) (s : Numbers) (k : ℕ) → IsBelow n s → k < n → IsBelow n (insert s k)
IsBelow-insert n s k within small e h = or_cases (nat_eq e k) (contains s e) (λ same. at_number (eqb-true e k same)) (within e) (sym (contains_insert s k e) ∙ h)
  where
    at_number : e ≡ k → e < n
    at_number same = omega (arith, same, small)

pub IsBelow-from_list : (n : ℕ) (numbers : List ℕ) → All (λ number. number < n) numbers → IsBelow n (from_list numbers)
IsBelow-from_list n [] all = IsBelow-none n
IsBelow-from_list n (k ∷ numbers) all =
    IsBelow-insert n (from_list numbers) k (IsBelow-from_list n numbers (All-tail (λ number. number < n) k numbers all)) (All-head (λ number. number < n) k numbers all)

-- ---- numbers that are added

pub with-none : (s : Numbers) → with_numbers s [] ≡ s
with-none s = union-none s

-- a list that is tested to be empty
pub with-empty : (s : Numbers) (numbers : List ℕ) → true ≡ (length numbers == 0) → s ≡ with_numbers s numbers
with-empty s [] none = sym (with-none s)
with-empty s (k ∷ numbers) none = let no_length = eqb-true (length (k ∷ numbers)) 0 (sym none) in absurd (omega (arith, no_length))

union-insert : (s t : Numbers) (k : ℕ) → union s (insert t k) ≡ insert (union s t) k
union-insert s t k = alike _ _ (λ e.
    contains_union s (insert t k) e ∙ ap (λ b. contains s e || b) (contains_insert t k e)
    ∙ swapped (contains s e) (nat_eq e k) (contains t e)
    ∙ ap (λ b. nat_eq e k || b) (sym (contains_union s t e)) ∙ sym (contains_insert (union s t) k e))
  where
    swapped : (a b c : Bool) → (a || (b || c)) ≡ (b || (a || c))
    swapped true true c = refl
    swapped true false c = refl
    swapped false b c = refl

pub with-more : (s : Numbers) (numbers : List ℕ) (k : ℕ) → with_numbers s (numbers ++ k ∷ []) ≡ insert (with_numbers s numbers) k
with-more s numbers k =
    ap (λ t. union s t) (from_list_push nat_cmp_total nat_cmp-IsAntisymmetric numbers k) ∙ union-insert s (from_list numbers) k

pub IsBelow-with : (n : ℕ) (s : Numbers) (numbers : List ℕ) → IsBelow n s → All (λ number. number < n) numbers → IsBelow n (with_numbers s numbers)
IsBelow-with n s numbers within all = IsBelow-union n s (from_list numbers) within (IsBelow-from_list n numbers all)
