-- The numbers of a range that pass a test. A reader of contracts may skip this file.
use Rattle.std.proofs.Common.{◌≡◌, ℕ, zero, suc, ◌+◌, ◌<◌, ◌≤◌, Bool, true, false, cond, List, [], ◌∷◌, ◌++◌, map, refl, sym, ap, ◌∙◌, arith, filter, add-zero, inl, inr}
use Rattle.std.specs.List.{range_with_len}
use Rattle.std.proofs.lemmas.Bool.{cases_eq}

-- one more number at the end
pub range_more : (a n : ℕ) → range_with_len a (suc n) ≡ range_with_len a n ++ (a + n) ∷ []
range_more a zero = ap (λ x. x ∷ []) (sym (add-zero a))
range_more a (suc n) =
    let moved : a + 1 + n ≡ a + suc n = omega arith in
    ap (λ xs. a ∷ xs) (range_more (a + 1) n ∙ ap (λ x. range_with_len (a + 1) n ++ x ∷ []) moved)

pub filter_more : (p : ℕ → Bool) (xs : List ℕ) (x : ℕ) → filter p (xs ++ x ∷ []) ≡ filter p xs ++ cond (p x) (x ∷ []) []
filter_more p [] x = refl
filter_more p (y ∷ xs) x =
    elim (p y) as (λ b. cond b (y ∷ filter p (xs ++ x ∷ [])) (filter p (xs ++ x ∷ [])) ≡ cond b (y ∷ filter p xs) (filter p xs) ++ cond (p x) (x ∷ []) []) [
      | true ↦ ap (λ zs. y ∷ zs) (filter_more p xs x)
      | false ↦ filter_more p xs x
    ]

-- two tests that agree on the range
pub filter_same : (p q : ℕ → Bool) (a n : ℕ) → ((i : ℕ) → a ≤ i → i < a + n → p i ≡ q i) → filter p (range_with_len a n) ≡ filter q (range_with_len a n)
filter_same p q a zero agree = refl
filter_same p q a (suc n) agree =
    ap (λ b. cond b (a ∷ filter p (range_with_len (a + 1) n)) (filter p (range_with_len (a + 1) n))) (agree a (omega arith) (omega arith))
    ∙ ap (λ xs. cond (q a) (a ∷ xs) xs) (filter_same p q (a + 1) n (λ i low high. agree i (omega arith) (omega arith)))

-- none passes
pub filter_none : (p : ℕ → Bool) (a n : ℕ) → ((i : ℕ) → a ≤ i → i < a + n → p i ≡ false) → filter p (range_with_len a n) ≡ []
filter_none p a zero fails = refl
filter_none p a (suc n) fails =
    ap (λ b. cond b (a ∷ filter p (range_with_len (a + 1) n)) (filter p (range_with_len (a + 1) n))) (fails a (omega arith) (omega arith))
    ∙ filter_none p (a + 1) n (λ i low high. fails i (omega arith) (omega arith))

-- a range in two parts
pub filter_parts : (p : ℕ → Bool) (a m n : ℕ) → filter p (range_with_len a (m + n)) ≡ filter p (range_with_len a m) ++ filter p (range_with_len (a + m) n)
filter_parts p a zero n = let e : 0 + n ≡ n = omega arith in let z : a + 0 ≡ a = omega arith in rw (e, z) refl
filter_parts p a (suc m) n =
    let e : suc m + n ≡ suc (m + n) = omega arith in
    let z : a + suc m ≡ a + 1 + m = omega arith in
    rw (e, z)
    (elim (p a) as (λ b. cond b (a ∷ filter p (range_with_len (a + 1) (m + n))) (filter p (range_with_len (a + 1) (m + n)))
    ≡ cond b (a ∷ filter p (range_with_len (a + 1) m)) (filter p (range_with_len (a + 1) m)) ++ filter p (range_with_len (a + 1 + m) n)) [
      | true ↦ ap (λ zs. a ∷ zs) (filter_parts p (a + 1) m n)
      | false ↦ filter_parts p (a + 1) m n
    ])

-- a range moved up
pub filter_moved : (p : ℕ → Bool) (k a n : ℕ) → filter p (range_with_len (k + a) n) ≡ map (λ i. k + i) (filter (λ i. p (k + i)) (range_with_len a n))
filter_moved p k a zero = refl
filter_moved p k a (suc n) =
    let e : k + a + 1 ≡ k + (a + 1) = omega arith in
    rw e
    (elim (p (k + a)) as (λ b. cond b ((k + a) ∷ filter p (range_with_len (k + (a + 1)) n)) (filter p (range_with_len (k + (a + 1)) n))
    ≡ map (λ i. k + i) (cond b (a ∷ filter (λ i. p (k + i)) (range_with_len (a + 1) n)) (filter (λ i. p (k + i)) (range_with_len (a + 1) n)))) [
      | true ↦ ap (λ zs. (k + a) ∷ zs) (filter_moved p k (a + 1) n)
      | false ↦ filter_moved p k (a + 1) n
    ])

keeps : (b : Bool) (x : ℕ) (xs : List ℕ) → b ≡ true → cond b (x ∷ xs) xs ≡ x ∷ xs
keeps b x xs e = ap (λ t. cond t (x ∷ xs) xs) e

skips : (b : Bool) (x : ℕ) (xs : List ℕ) → b ≡ false → cond b (x ∷ xs) xs ≡ xs
skips b x xs e = ap (λ t. cond t (x ∷ xs) xs) e

-- the first that passes comes first, and the others are those that pass after it
pub filter_first : (p q : ℕ → Bool) (m a n : ℕ) → a ≤ m → m < a + n → p m ≡ true → q m ≡ false
    → ((i : ℕ) → i < m → p i ≡ false) → ((i : ℕ) → i < m → q i ≡ false) → ((i : ℕ) → m < i → p i ≡ q i)
    → filter p (range_with_len a n) ≡ m ∷ filter q (range_with_len a n)
filter_first p q m a zero low high pm qm pb qb same = absurd (omega arith)
filter_first p q m a (suc n) low high pm qm pb qb same =
    elim (cases_eq a m) as (λ _. filter p (range_with_len a (suc n)) ≡ m ∷ filter q (range_with_len a (suc n))) [
      | inl e ↦ keeps (p a) a (filter p (range_with_len (a + 1) n)) (ap p e ∙ pm)
          ∙ ap (λ x. x ∷ filter p (range_with_len (a + 1) n)) e
          ∙ ap (λ xs. m ∷ xs) (filter_same p q (a + 1) n (λ i from until. same i (omega arith)))
          ∙ ap (λ xs. m ∷ xs) (sym (skips (q a) a (filter q (range_with_len (a + 1) n)) (ap q e ∙ qm)))
      | inr ne ↦ skips (p a) a (filter p (range_with_len (a + 1) n)) (pb a (omega arith))
          ∙ filter_first p q m (a + 1) n (omega arith) (omega arith) pm qm pb qb same
          ∙ ap (λ xs. m ∷ xs) (sym (skips (q a) a (filter q (range_with_len (a + 1) n)) (qb a (omega arith))))
    ]
