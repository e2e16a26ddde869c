-- Searches in a table.
use Rattle.std.proofs.Common.{◌≡◌, ◌≢◌, ℕ, suc, ◌+◌, ◌-◌, ◌<◌, ◌≤◌, inl, inr, Bool, true, false, cond, eqb, not, List, [], ◌∷◌, length, get_or, sym, ap, ◌∙◌, arith, bit_and, count_by}
use Rattle.std.proofs.lemmas.Nat.{and_le_r}
use borrow.Author.Count.{below_more}
use Rattle.std.proofs.lemmas.Bool.{cases_lt, cases_eq, ne_eqb, eq-eqb, eqb-true, eqb-false, lt-ltb, le-ltb}
use Rattle.std.proofs.lemmas.List.{get_or_past, get_or_read}
use Rattle.std.proofs.lemmas.List.Sums.{sum_by-cons}
use Rattle.tantivy_stacker.specs.Maps.{place, is_taken, IsTaken, home, turn}

pub and_below : (h n : ℕ) → 1 ≤ n → bit_and h (n - 1) < n
and_below h n some = omega (arith, and_le_r h (n - 1))

pub home-below : (n h : ℕ) → 1 ≤ n → home n h < n
unfolding home
home-below n h some = and_below h n some

turn-near : (n s d : ℕ) → s + d < n → turn n s d ≡ s + d
unfolding turn
turn-near n s d h = ap (λ b. cond b (s + d) (s + d - n)) (lt-ltb (s + d) n h)

turn-far : (n s d : ℕ) → n ≤ s + d → turn n s d ≡ s + d - n
unfolding turn
turn-far n s d h = ap (λ b. cond b (s + d) (s + d - n)) (le-ltb (s + d) n h)

pub turn-first : (n s : ℕ) → s < n → turn n s 0 ≡ s
turn-first n s h = turn-near n s 0 (omega arith) ∙ omega arith

abbrev pub after : ℕ → ℕ → ℕ
after n i = cond (eqb (i + 1) n) 0 (i + 1)

after-more : (n i : ℕ) → i + 1 ≢ n → after n i ≡ i + 1
after-more n i ne = ap (λ b. cond b 0 (i + 1)) (ne_eqb (i + 1) n ne)

after-end : (n i : ℕ) → i + 1 ≡ n → after n i ≡ 0
after-end n i e = ap (λ b. cond b 0 (i + 1)) (eq-eqb (i + 1) n e)

pub turn-next : (n s d : ℕ) → s < n → d < n → turn n s (d + 1) ≡ after n (turn n s d)
turn-next n s d hs hd =
    elim (cases_lt (s + d) n) [
      | inl near ↦
          elim (cases_eq (s + d + 1) n) [
            | inl e ↦ rw (turn-near n s d near, after-end n (s + d) e) (turn-far n s (d + 1) (omega arith) ∙ omega arith)
            | inr ne ↦ rw (turn-near n s d near, after-more n (s + d) ne) (turn-near n s (d + 1) (omega arith) ∙ omega arith)
          ]
      | inr far ↦ rw (turn-far n s d far, after-more n (s + d - n) (omega arith)) (turn-far n s (d + 1) (omega arith) ∙ omega arith)
    ]

pub turn-reaches : (n s i : ℕ) → s < n → i < n → (d : ℕ) × (d < n) × (turn n s d ≡ i)
turn-reaches n s i hs hi =
    elim (cases_lt i s) [
      | inl before ↦ (i + n - s, omega arith, turn-far n s (i + n - s) (omega arith) ∙ omega arith)
      | inr after ↦ (i - s, omega arith, turn-near n s (i - s) (omega arith) ∙ omega arith)
    ]

-- a table with fewer taken places than places has a free one
pub some_free : (ps : List (ℕ × ℕ)) → count_by is_taken ps < length ps → (i : ℕ) × (i < length ps) × ((place ps i).0 ≡ 4294967295)
some_free [] h = absurd (omega arith)
some_free (p ∷ ps) h =
    elim (cases_eq p.0 4294967295) [
      | inl e ↦ (0, omega arith, e)
      | inr ne ↦
          (let taken : is_taken p ≡ true = ap not (ne_eqb p.0 4294967295 ne) in
          let one : cond {A = ℕ} (is_taken p) 1 0 ≡ 1 = ap (λ (b : Bool). cond {A = ℕ} b 1 0) taken in
          let split = sum_by-cons (λ (x : ℕ × ℕ). cond (is_taken x) 1 0) p ps in
          let rest = some_free ps (omega arith) in
          (suc rest.0, omega (arith, rest.1), rest.2))
    ]

-- a search that met only taken places has not met all
pub all_taken : (ps : List (ℕ × ℕ)) (s : ℕ) → s < length ps → count_by is_taken ps < length ps → ((d : ℕ) → d < length ps → IsTaken ps (turn (length ps) s d)) → ⊥
all_taken ps s hs room taken =
    let free = some_free ps room in
    let d = turn-reaches (length ps) s free.0 hs free.1 in
    taken d.0 d.1 (ap (λ i. (place ps i).0) d.2 ∙ free.2)

pub taken-below : (ps : List (ℕ × ℕ)) (i : ℕ) → IsTaken ps i → i < length ps
taken-below ps i h = elim (cases_lt i (length ps)) [ inl less ↦ less | inr more ↦ absurd (h (ap (λ (p : ℕ × ℕ). p.0) (get_or_past ps i (4294967295, 0) more))) ]

next_below : (n s step : ℕ) → s < n → step < n → turn n s (step + 1) < n
next_below n s step hs within =
    elim (cases_lt (s + step + 1) n) [
      | inl near ↦ rw (turn-near n s (step + 1) (omega arith)) (omega arith)
      | inr far ↦ rw (turn-far n s (step + 1) (omega arith)) (omega arith)
    ]

-- one step of a search
pub search_more : (ps : List (ℕ × ℕ)) (s step bucket next : ℕ) → s < length ps → step < length ps → bucket ≡ turn (length ps) s step → next ≡ after (length ps) bucket → IsTaken ps bucket → ((d : ℕ) → d < step → IsTaken ps (turn (length ps) s d)) → (next ≡ turn (length ps) s (step + 1)) × (next < length ps) × ((d : ℕ) → d < step + 1 → IsTaken ps (turn (length ps) s d))
search_more ps s step bucket next hs within at after_is taken before =
    let n = length ps in
    let there : next ≡ turn n s (step + 1) = after_is ∙ (ap (after n) at ∙ sym (turn-next n s step hs within)) in
    (there, rw there (next_below n s step hs within), below_more _ _ before (λ e. taken (ap (λ i. (place ps i).0) at ∙ e)))

-- what the code reads of a place
pub read_taken : (ps : List (ℕ × ℕ)) (i : ℕ) (x : ℕ × ℕ) (b : Bool) → i < length ps → x ≡ get_or ps i x → b ≡ eqb x.0 4294967295 → b ≡ false → IsTaken ps i
read_taken ps i x b within read test off =
    let same : x ≡ place ps i = get_or_read ps i x within read (4294967295, 0) in
    λ e. eqb-false x.0 4294967295 (sym test ∙ off) (ap (λ (p : ℕ × ℕ). p.0) same ∙ e)

pub read_free : (ps : List (ℕ × ℕ)) (i : ℕ) (x : ℕ × ℕ) (b : Bool) → i < length ps → x ≡ get_or ps i x → b ≡ eqb x.0 4294967295 → b ≡ true → (place ps i).0 ≡ 4294967295
read_free ps i x b within read test on =
    let same : x ≡ place ps i = get_or_read ps i x within read (4294967295, 0) in
    ap (λ (p : ℕ × ℕ). p.0) (sym same) ∙ eqb-true x.0 4294967295 (sym test ∙ on)
