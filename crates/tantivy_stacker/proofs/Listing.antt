-- The entries of a map, as its iterator gives them.
use Rattle.std.proofs.Common.{◌≡◌, ◌≢◌, ℕ, zero, suc, ◌<◌, ◌≤◌, Bool, true, false, not, filter, List, [], ◌∷◌, length, get_or, refl, sym, ap, subst, ◌∙◌, arith}
use Rattle.std.proofs.lemmas.Bool.{ne_eqb, eq-eqb, false≢true}
use Rattle.std.proofs.lemmas.List.{get_or-map, length-map}
use Rattle.std.proofs.lemmas.List.Sums.{length-filter}
use Rattle.tantivy_stacker.specs.Arena.{Arena, Lies, bytes_at}
use Rattle.tantivy_stacker.specs.Maps.{Table, place, is_taken, IsTaken, key_at, value_place, IsHeldMap, AreEntries, entries_of}
use Rattle.tantivy_stacker.proofs.Entries.{value_lies}
use Rattle.tantivy_stacker.proofs.Maps.{filter-cons_yes, filter-cons_no}

is_on : (p : ℕ × ℕ) → p.0 ≢ 4294967295 → is_taken p ≡ true
is_on p taken = ap not (ne_eqb p.0 4294967295 taken)

taken_of : (p : ℕ × ℕ) → is_taken p ≡ true → p.0 ≢ 4294967295
taken_of p on = λ e. false≢true (sym (ap not (eq-eqb p.0 4294967295 e)) ∙ on)

-- ---- each listed place is a taken one
Found : List (ℕ × ℕ) → List (ℕ × ℕ) → Type 0
Found ps xs = (k : ℕ) → k < length xs → (i : ℕ) × IsTaken ps i × (place xs k ≡ place ps i)

found_behind : (p : ℕ × ℕ) (ps xs : List (ℕ × ℕ)) → Found ps xs → Found (p ∷ ps) xs
unfolding Found
found_behind p ps xs f = λ k below. let g = f k below in (suc g.0, g.1, g.2)

found_first : (p : ℕ × ℕ) (ps xs : List (ℕ × ℕ)) → p.0 ≢ 4294967295 → Found ps xs → Found (p ∷ ps) (p ∷ xs)
unfolding Found
found_first p ps xs taken f zero below = (zero, taken, refl)
found_first p ps xs taken f (suc k) below = let g = f k (omega arith) in (suc g.0, g.1, g.2)

found : (ps : List (ℕ × ℕ)) → Found ps (filter is_taken ps)
unfolding Found
found [] = λ k below. absurd (omega arith)
found (p ∷ ps) =
    let by : (b : Bool) → is_taken p ≡ b → Found (p ∷ ps) (filter is_taken (p ∷ ps)) =
    λ b. elim b as (λ b. is_taken p ≡ b → Found (p ∷ ps) (filter is_taken (p ∷ ps))) [
      | true ↦ λ on. subst (Found (p ∷ ps)) (sym (filter-cons_yes is_taken p ps on)) (found_first p ps (filter is_taken ps) (taken_of p on) (found ps))
      | false ↦ λ off. subst (Found (p ∷ ps)) (sym (filter-cons_no is_taken p ps off)) (found_behind p ps (filter is_taken ps) (found ps))
    ] in
    by (is_taken p) refl

-- ---- each taken place is listed
Stands : ℕ × ℕ → List (ℕ × ℕ) → Type 0
Stands p xs = (k : ℕ) × (k < length xs) × (place xs k ≡ p)

stands_behind : (p q : ℕ × ℕ) (xs : List (ℕ × ℕ)) → Stands p xs → Stands p (q ∷ xs)
unfolding Stands
stands_behind p q xs s = let below = s.1 in (suc s.0, omega arith, s.2)

stands : (ps : List (ℕ × ℕ)) (i : ℕ) → IsTaken ps i → Stands (place ps i) (filter is_taken ps)
unfolding Stands
stands [] i taken = absurd (taken refl)
stands (p ∷ ps) zero taken = subst (Stands p) (sym (filter-cons_yes is_taken p ps (is_on p taken))) (zero, omega arith, refl)
stands (p ∷ ps) (suc i) taken =
    let by : (b : Bool) → is_taken p ≡ b → Stands (place ps i) (filter is_taken (p ∷ ps)) =
    λ b. elim b as (λ b. is_taken p ≡ b → Stands (place ps i) (filter is_taken (p ∷ ps))) [
      | true ↦ λ on. subst (Stands (place ps i)) (sym (filter-cons_yes is_taken p ps on)) (stands_behind (place ps i) p (filter is_taken ps) (stands ps i taken))
      | false ↦ λ off. subst (Stands (place ps i)) (sym (filter-cons_no is_taken p ps off)) (stands ps i taken)
    ] in
    by (is_taken p) refl

-- ---- no two listed places have one key, where no two taken ones do
module _ (key : ℕ × ℕ → List ℕ) where
  Differ : List (ℕ × ℕ) → Type 0
  Differ ps = (i j : ℕ) → IsTaken ps i → IsTaken ps j → key (place ps i) ≡ key (place ps j) → i ≡ j

  Once : List (ℕ × ℕ) → Type 0
  Once xs = (i j : ℕ) → i < length xs → j < length xs → key (place xs i) ≡ key (place xs j) → i ≡ j

  differ_behind : (p : ℕ × ℕ) (ps : List (ℕ × ℕ)) → Differ (p ∷ ps) → Differ ps
  unfolding Differ
  differ_behind p ps d = λ i j ti tj same. let next = d (suc i) (suc j) ti tj same in omega arith

  not_behind : (p : ℕ × ℕ) (ps xs : List (ℕ × ℕ)) (k : ℕ) → p.0 ≢ 4294967295 → Differ (p ∷ ps) → Found ps xs → k < length xs → key p ≡ key (place xs k) → (A : Type 0) → A
  unfolding Differ Found
  not_behind p ps xs k taken d f below same A =
      let g = f k below in
      let met = d zero (suc g.0) taken g.1 (same ∙ ap key g.2) in
      absurd (omega arith)

  once_first : (p : ℕ × ℕ) (ps xs : List (ℕ × ℕ)) → p.0 ≢ 4294967295 → Differ (p ∷ ps) → Found ps xs → Once xs → Once (p ∷ xs)
  unfolding Once
  once_first p ps xs taken d f o zero zero bi bj same = refl
  once_first p ps xs taken d f o zero (suc j) bi bj same = not_behind p ps xs j taken d f (omega arith) same (zero ≡ suc j)
  once_first p ps xs taken d f o (suc i) zero bi bj same = not_behind p ps xs i taken d f (omega arith) (sym same) (suc i ≡ zero)
  once_first p ps xs taken d f o (suc i) (suc j) bi bj same = ap suc (o i j (omega arith) (omega arith) same)

  once_in : (ps : List (ℕ × ℕ)) → Differ ps → Once (filter is_taken ps)
  unfolding Once
  once_in [] d = λ i j bi bj same. absurd (omega arith)
  once_in (p ∷ ps) d =
      let by : (b : Bool) → is_taken p ≡ b → Once (filter is_taken (p ∷ ps)) =
      λ b. elim b as (λ b. is_taken p ≡ b → Once (filter is_taken (p ∷ ps))) [
        | true ↦ λ on. subst Once (sym (filter-cons_yes is_taken p ps on)) (once_first p ps (filter is_taken ps) (taken_of p on) d (found ps) (once_in ps (differ_behind p ps d)))
        | false ↦ λ off. subst Once (sym (filter-cons_no is_taken p ps off)) (once_in ps (differ_behind p ps d))
      ] in
      by (is_taken p) refl

-- ---- the entries
module _ {V : Type 0} (size : ℕ) (item : List ℕ → V) (some : 1 ≤ size) (a : Arena) (t : Table) (h : IsHeldMap size a t) where
  entry : ℕ × ℕ → List ℕ × ℕ
  entry p = (key_at a p.0, value_place a p.0)

  listed_places : List (ℕ × ℕ)
  listed_places = filter is_taken t.places

  entry_is : (k : ℕ) (e : List ℕ × ℕ) → k < length listed_places → get_or (entries_of a t.places) k e ≡ entry (place listed_places k)
  unfolding entries_of listed_places entry
  entry_is k e below = get_or-map (λ (p : ℕ × ℕ). (key_at a p.0, value_place a p.0)) (filter is_taken t.places) k (4294967295, 0) e below

  entries-length : length (entries_of a t.places) ≡ length listed_places
  unfolding entries_of listed_places
  entries-length = length-map (filter is_taken t.places) (λ (p : ℕ × ℕ). (key_at a p.0, value_place a p.0))

  pub are_entries : AreEntries size item a t (entries_of a t.places)
  unfolding Found Stands Once Differ listed_places entry
  are_entries = record {
    listed = λ key v g.
        let s = stands t.places g.at g.taken in
        let e = value_place a (place t.places g.at).0 in
        let below = s.1 in
        (e, (s.0, omega (arith, entries-length), entry_is s.0 (key, e) below ∙ (ap (λ (p : ℕ × ℕ). (key_at a p.0, value_place a p.0)) s.2 ∙ ap (λ (k : List ℕ). (k, e)) g.key_is)), g.value_is);
    only = λ key e c.
        let below : c.0 < length (filter is_taken t.places) = subst (λ n. c.0 < n) entries-length c.1 in
        let f = found t.places c.0 below in
        let same : (key_at a (place t.places f.0).0, value_place a (place t.places f.0).0) ≡ (key, e) = sym (ap (λ (p : ℕ × ℕ). (key_at a p.0, value_place a p.0)) f.2) ∙ (sym (entry_is c.0 (key, e) below) ∙ c.2) in
        let at : value_place a (place t.places f.0).0 ≡ e = ap (λ (x : List ℕ × ℕ). x.1) same in (
          subst (λ n. Lies a n size) at (value_lies a (place t.places f.0).0 size (h.lies f.0 f.1) some),
          record { at = f.0; taken = f.1; key_is = ap (λ (x : List ℕ × ℕ). x.0) same; value_is = ap (λ n. item (bytes_at a n size)) at },
        );
    once = λ i j bi bj same.
        let ci : i < length (filter is_taken t.places) = subst (λ n. i < n) entries-length bi in
        let cj : j < length (filter is_taken t.places) = subst (λ n. j < n) entries-length bj in
        once_in (λ (p : ℕ × ℕ). key_at a p.0) t.places h.distinct i j ci cj
        (ap (λ (x : List ℕ × ℕ). x.0) (sym (entry_is i ([], 0) ci)) ∙ (same ∙ ap (λ (x : List ℕ × ℕ). x.0) (entry_is j ([], 0) cj)));
    counted = entries-length ∙ (length-filter is_taken t.places ∙ h.counted);
  }
