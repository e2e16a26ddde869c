-- Inserting each item into a set that keeps its order keeps the first of equal items.
use Rattle.std.proofs.Common.{◌≡◌, ◌∙◌, sym, ap, refl, Bool, true, false, ◌||◌, List, [], ◌∷◌, ◌++◌, fold, append_assoc, append-nil}
use Rattle.std.specs.Prelude.{filter, not}
use Rattle.std.specs.List.{list_any}
use Rattle.std.proofs.lemmas.Bool.{false≢true}
use Rattle.indexmap.specs.IndexSet.{insert_all, insert_key}

-- the first of items that the test finds equal
abbrev pub first_ones : {A : Type 0} → (A → A → Bool) → List A → List A
first_ones same [] = []
first_ones same (x ∷ xs) = x ∷ filter (λ y. not (same x y)) (first_ones same xs)

any_more : {A : Type 0} (p : A → Bool) (ks : List A) (x : A) → list_any p (ks ++ x ∷ []) ≡ list_any p ks || p x
any_more p [] x = either (p x)
  where
    either : (b : Bool) → b || false ≡ false || b
    either true = refl
    either false = refl
any_more p (k ∷ ks) x = ap (λ b. p k || b) (any_more p ks x) ∙ regroup (p k) (list_any p ks) (p x)
  where
    regroup : (a b c : Bool) → a || (b || c) ≡ (a || b) || c
    regroup true b c = refl
    regroup false b c = refl

-- a filter that looks at the answer of the test alone
abbrev kept : {A : Type 0} → Bool → A → List A → List A
kept true y ys = y ∷ ys
kept false y ys = ys

filter_is : {A : Type 0} (p : A → Bool) (y : A) (ys : List A) → filter p (y ∷ ys) ≡ kept (p y) y (filter p ys)
filter_is p y ys =
    let by : (b : Bool) → p y ≡ b → filter p (y ∷ ys) ≡ kept (p y) y (filter p ys) =
    λ b. elim b as (λ v. p y ≡ v → filter p (y ∷ ys) ≡ kept (p y) y (filter p ys)) [ true ↦ λ e. rw e | false ↦ λ e. rw e ]
    in by (p y) refl

pub filter_same : {A : Type 0} (p q : A → Bool) → ((x : A) → p x ≡ q x) → (ys : List A) → filter p ys ≡ filter q ys
filter_same p q is [] = refl
filter_same p q is (y ∷ ys) = filter_is p y ys ∙ ap (λ b. kept b y (filter p ys)) (is y) ∙ ap (kept (q y) y) (filter_same p q is ys) ∙ sym (filter_is q y ys)

-- what passes p passes q
filter_within : {A : Type 0} (p q : A → Bool) → ((y : A) → q y ≡ false → p y ≡ false) → (ys : List A) → filter p (filter q ys) ≡ filter p ys
filter_within p q implies [] = refl
filter_within p q implies (y ∷ ys) =
    let by : (b : Bool) → q y ≡ b → filter p (filter q (y ∷ ys)) ≡ filter p (y ∷ ys) =
    λ b. elim b as (λ v. q y ≡ v → filter p (filter q (y ∷ ys)) ≡ filter p (y ∷ ys)) [
      | true ↦ λ e. ap (filter p) (filter_is q y ys ∙ ap (λ v. kept v y (filter q ys)) e) ∙ filter_is p y (filter q ys) ∙ ap (kept (p y) y) (filter_within p q implies ys) ∙ sym (filter_is p y ys)
      | false ↦ λ e. ap (filter p) (filter_is q y ys ∙ ap (λ v. kept v y (filter q ys)) e) ∙ filter_within p q implies ys ∙ sym (filter_is p y ys ∙ ap (λ v. kept v y (filter p ys)) (implies y e))
    ]
    in by (q y) refl

-- passing both tests, one after the other or at once
filter_both : {A : Type 0} (r p q : A → Bool) → ((y : A) → q y ≡ true → r y ≡ p y) → ((y : A) → q y ≡ false → r y ≡ false) → (ys : List A) → filter r ys ≡ filter p (filter q ys)
filter_both r p q passes fails [] = refl
filter_both r p q passes fails (y ∷ ys) =
    let by : (b : Bool) → q y ≡ b → filter r (y ∷ ys) ≡ filter p (filter q (y ∷ ys)) =
    λ b. elim b as (λ v. q y ≡ v → filter r (y ∷ ys) ≡ filter p (filter q (y ∷ ys))) [
      | true ↦ λ e. filter_is r y ys ∙ ap (λ v. kept v y (filter r ys)) (passes y e) ∙ ap (kept (p y) y) (filter_both r p q passes fails ys) ∙ sym (ap (filter p) (filter_is q y ys ∙ ap (λ v. kept v y (filter q ys)) e) ∙ filter_is p y (filter q ys))
      | false ↦ λ e. filter_is r y ys ∙ ap (λ v. kept v y (filter r ys)) (fails y e) ∙ filter_both r p q passes fails ys ∙ sym (ap (filter p) (filter_is q y ys ∙ ap (λ v. kept v y (filter q ys)) e))
    ]
    in by (q y) refl

-- the test is true exactly at equal items
pub record TellsApart {A : Type 0} (same : A → A → Bool) : Type 0 where
  pub reads : (x y : A) → same x y ≡ true → x ≡ y
  pub self : (x : A) → same x x ≡ true

opposite : (b c : Bool) → not b ≡ c → b ≡ not c
opposite true c h = ap not h
opposite false c h = ap not h

swapped_true : {A : Type 0} (same : A → A → Bool) → TellsApart same → (x y : A) → same x y ≡ true → same y x ≡ true
swapped_true same t x y e = ap (same y) (t.reads x y e) ∙ t.self y

swapped_false : {A : Type 0} (same : A → A → Bool) → TellsApart same → (x y : A) → same x y ≡ false → same y x ≡ false
swapped_false same t x y e = by (same y x) refl
  where
    by : (c : Bool) → same y x ≡ c → same y x ≡ false
    by true f = absurd (false≢true (sym e ∙ swapped_true same t y x f))
    by false f = f

or_true : (a : Bool) → a || true ≡ true
or_true true = refl
or_true false = refl

or_false : (a : Bool) → a || false ≡ a
or_false true = refl
or_false false = refl

known : {A : Type 0} (same : A → A → Bool) (ks : List A) (x : A) → list_any (same x) ks ≡ true → insert_key same ks x ≡ ks
known same ks x e = rw e

new : {A : Type 0} (same : A → A → Bool) (ks : List A) (x : A) → list_any (same x) ks ≡ false → insert_key same ks x ≡ ks ++ x ∷ []
new same ks x e = rw e

abbrev is_new : {A : Type 0} → (A → A → Bool) → List A → A → Bool
is_new same ks y = not (list_any (same y) ks)

abbrev is_other : {A : Type 0} → (A → A → Bool) → A → A → Bool
is_other same x y = not (same x y)

dropped : {A : Type 0} (same : A → A → Bool) → TellsApart same → (ks ys : List A) (x : A) → list_any (same x) ks ≡ true → filter (is_new same ks) (x ∷ filter (is_other same x) ys) ≡ filter (is_new same ks) ys
dropped {A = A} same t ks ys x e =
    filter_is (is_new same ks) x (filter (is_other same x) ys) ∙ ap (λ b. kept (not b) x (filter (is_new same ks) (filter (is_other same x) ys))) e
    ∙ filter_within (is_new same ks) (is_other same x) gone ys
  where
    gone : (y : A) → is_other same x y ≡ false → is_new same ks y ≡ false
    gone y h = ap (is_new same ks) (sym (t.reads x y (opposite (same x y) false h))) ∙ ap not e

added : {A : Type 0} (same : A → A → Bool) → TellsApart same → (ks ys : List A) (x : A) → list_any (same x) ks ≡ false → x ∷ filter (is_new same (ks ++ x ∷ [])) ys ≡ filter (is_new same ks) (x ∷ filter (is_other same x) ys)
added {A = A} same t ks ys x e =
    ap (λ zs. x ∷ zs) (filter_both (is_new same (ks ++ x ∷ [])) (is_new same ks) (is_other same x) passes fails ys)
    ∙ sym (filter_is (is_new same ks) x (filter (is_other same x) ys) ∙ ap (λ b. kept (not b) x (filter (is_new same ks) (filter (is_other same x) ys))) e)
  where
    passes : (y : A) → is_other same x y ≡ true → is_new same (ks ++ x ∷ []) y ≡ is_new same ks y
    passes y h = ap not (any_more (same y) ks x ∙ ap (λ b. list_any (same y) ks || b) (swapped_false same t x y (opposite (same x y) true h)) ∙ or_false (list_any (same y) ks))

    fails : (y : A) → is_other same x y ≡ false → is_new same (ks ++ x ∷ []) y ≡ false
    fails y h = ap not (any_more (same y) ks x ∙ ap (λ b. list_any (same y) ks || b) (swapped_true same t x y (opposite (same x y) false h)) ∙ or_true (list_any (same y) ks))

keeps : {A : Type 0} (same : A → A → Bool) → TellsApart same → (ks xs : List A) → fold (insert_key same) ks xs ≡ ks ++ filter (is_new same ks) (first_ones same xs)
keeps same t ks [] = sym (append-nil ks)
keeps {A = A} same t ks (x ∷ xs) =
    let by : (b : Bool) → list_any (same x) ks ≡ b → fold (insert_key same) ks (x ∷ xs) ≡ ks ++ filter (is_new same ks) (first_ones same (x ∷ xs)) =
    λ b. elim b as (λ v. list_any (same x) ks ≡ v → fold (insert_key same) ks (x ∷ xs) ≡ ks ++ filter (is_new same ks) (first_ones same (x ∷ xs))) [
      | true ↦ λ e. ap (λ k. fold (insert_key same) k xs) (known same ks x e) ∙ keeps same t ks xs ∙ ap (λ zs. ks ++ zs) (sym (dropped same t ks (first_ones same xs) x e))
      | false ↦ λ e.
          ap (λ k. fold (insert_key same) k xs) (new same ks x e) ∙ keeps same t (ks ++ x ∷ []) xs ∙ append_assoc ks (x ∷ []) (filter (is_new same (ks ++ x ∷ [])) (first_ones same xs))
          ∙ ap (λ zs. ks ++ zs) (added same t ks (first_ones same xs) x e)
    ]
    in by (list_any (same x) ks) refl

pub kept_once : {A : Type 0} (same : A → A → Bool) → TellsApart same → (xs : List A) → insert_all same [] xs ≡ first_ones same xs
kept_once {A = A} same t xs = keeps same t [] xs ∙ filter_all (first_ones same xs)
  where
    filter_all : (ys : List A) → filter (is_new same []) ys ≡ ys
    filter_all [] = refl
    filter_all (y ∷ ys) = ap (λ zs. y ∷ zs) (filter_all ys)
