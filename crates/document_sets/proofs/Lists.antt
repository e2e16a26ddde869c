-- Ascending lists of numbers and their sets.
use Rattle.std.proofs.Common.{◌≡◌, ℕ, zero, suc, cond, ◌+◌, ◌<◌, ◌&&◌, ◌||◌, not, Bool, true, false, List, [], ◌∷◌, ◌++◌, All, refl, sym, ap, ◌∙◌, subst, arith, nat_eq, filter, add-one, zero-add}
use Rattle.std.specs.List.{range_with_len, AllByRecursion}
use Rattle.std.specs.List.Sorted.{IsStrictlySortedBy, IsStrictlyIncreasing}
use Rattle.std.specs.Ordering.{nat_cmp}
use Rattle.std.specs.declared.cmp.Ordering.TheVariants.{Less}
use Rattle.std.specs.FinSet.{insert, remove, contains, from_list}
use Rattle.std.proofs.lemmas.Bool.{lt-ltb, false≢true, eq-eqb, ne_eqb, eqb-true}
use Rattle.std.proofs.lemmas.Cmp.{ranked}
use Rattle.std.proofs.lemmas.List.Elements.{All-head, All-tail}
use Rattle.std.proofs.lemmas.Map.Keys.{sorted_from_strictly_increasing}
use Rattle.common_bitset.specs.Numbers.{Numbers, below, IsLeast, rising}
use Rattle.common_bitset.specs.Laws.Ranges.{range_more, filter_more}
use Rattle.common_bitset.specs.Laws.Sets.{alike, contains_insert, contains_remove, contains_empty, contains_below, rising_empty, rising_first}
use Rattle.document_sets.proofs.Sets.{or_cases}

-- ---- all numbers below a bound

rising_same : (m n : ℕ) → m < n + 1 → filter (contains (below n)) (range_with_len 0 m) ≡ range_with_len 0 m
rising_same zero n few = refl
rising_same (suc m) n few =
    ap (filter (contains (below n))) (range_more 0 m) ∙ filter_more (contains (below n)) (range_with_len 0 m) (0 + m)
    ∙ (λ i. rising_same m n (omega (arith, few)) i ++ cond (here i) ((0 + m) ∷ []) []) ∙ sym (range_more 0 m)
  where
    here : contains (below n) (0 + m) ≡ true
    here = contains_below n (0 + m) ∙ lt-ltb (0 + m) n (omega (arith, few))

pub rising-all : (n : ℕ) → rising n (below n) ≡ range_with_len 0 n
unfolding rising
rising-all n = rising_same n n (omega arith)

pub range-next : (n : ℕ) → range_with_len 0 n ++ n ∷ [] ≡ range_with_len 0 (n + 1)
range-next n = ap (λ m. range_with_len 0 n ++ m ∷ []) (sym (zero-add n)) ∙ sym (range_more 0 n) ∙ ap (range_with_len 0) (sym (add-one n))

-- ---- an ascending list is that of its set

in_list : (P : ℕ → Type 0) (numbers : List ℕ) (e : ℕ) → AllByRecursion P numbers → contains (from_list {R = nat_cmp} numbers) e ≡ true → P e
in_list P [] e all h = absurd (false≢true (sym (contains_empty e) ∙ h))
in_list P (k ∷ numbers) e all h =
    or_cases (nat_eq e k) (contains (from_list numbers) e) (λ same. subst P (sym (eqb-true e k same)) all.0) (in_list P numbers e all.1)
    (sym (contains_insert (from_list numbers) k e) ∙ h)

-- a number below all of a set comes first in the set with it, and taking it out leaves the set
module _ (s : Numbers) (k : ℕ) (above : (e : ℕ) → contains s e ≡ true → k < e) where
  absent : (e : ℕ) → e < k + 1 → (b : Bool) → contains s e ≡ b → contains s e ≡ false
  absent e low true is = let high = above e is in absurd (omega (arith, high, low))
  absent e low false is = is

  first-IsLeast : IsLeast k (insert s k)
  first-IsLeast = record {
    here = contains_insert s k k ∙ ap (λ b. b || contains s k) (eq-eqb k k refl);
    none_before = λ e low. contains_insert s k e ∙ ap (λ b. b || contains s e) (ne_eqb e k (λ same. omega (arith, low, same))) ∙ absent e (omega (arith, low)) (contains s e) refl;
  }

  remove-first : remove (insert s k) k ≡ s
  remove-first = alike _ s (λ e.
      contains_remove (insert s k) k e ∙ ap (λ b. not (nat_eq e k) && b) (contains_insert s k e) ∙ dropped e (nat_eq e k) refl)
    where
      dropped : (e : ℕ) (b : Bool) → nat_eq e k ≡ b → (not (nat_eq e k) && (nat_eq e k || contains s e)) ≡ contains s e
      dropped e true is =
          ap (λ b. not b && (b || contains s e)) is ∙ sym (absent e (let same = eqb-true e k is in omega (arith, same)) (contains s e) refl)
      dropped e false is = ap (λ b. not b && (b || contains s e)) is

rising_sorted : (n : ℕ) (numbers : List ℕ) → IsStrictlySortedBy nat_cmp numbers → All (λ number. number < n) numbers → numbers ≡ rising n (from_list numbers)
unfolding IsStrictlySortedBy
rising_sorted n [] sorted low = sym (rising_empty n)
rising_sorted n (k ∷ numbers) sorted low =
    let above : (e : ℕ) → contains (from_list {R = nat_cmp} numbers) e ≡ true → k < e = λ e h. ranked k e Less (sym (in_list (λ y. nat_cmp k y ≡ Less) numbers e sorted.0 h)) in
    ap (λ xs. k ∷ xs) (rising_sorted n numbers sorted.1 (All-tail (λ number. number < n) k numbers low))
    ∙ ap (λ s. k ∷ rising n s) (sym (remove-first (from_list numbers) k above))
    ∙ sym (rising_first n k (insert (from_list numbers) k) (All-head (λ number. number < n) k numbers low) (first-IsLeast (from_list numbers) k above))

pub rising-list : (n : ℕ) (numbers : List ℕ) → IsStrictlyIncreasing numbers → All (λ number. number < n) numbers → numbers ≡ rising n (from_list numbers)
rising-list n numbers ascend low = rising_sorted n numbers (sorted_from_strictly_increasing numbers ascend) low
