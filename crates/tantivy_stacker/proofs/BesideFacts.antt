-- A list and a map in one arena stay apart.
use Rattle.std.proofs.Common.{◌≡◌, ℕ, zero, suc, ◌+◌, ◌≤◌, ◌⊎◌, inl, inr, Bool, true, false, not, filter, List, [], ◌∷◌, refl, sym, ap, subst, ◌∙◌, arith}
use Rattle.std.specs.List.{All}
use Rattle.std.proofs.lemmas.Bool.{eq-eqb, false≢true}
use Rattle.std.proofs.lemmas.List.Elements.{All-nil, All-cons, All-append, All-weaker}
use Rattle.tantivy_stacker.specs.Arena.{Arena, Lies, top}
use Rattle.tantivy_stacker.specs.Lists.{IsApart, Holds, ListWrite, list_bytes, list_places}
use Rattle.tantivy_stacker.specs.Maps.{Table, place, is_taken, IsTaken, entry_size, IsHeldMap, MapWrite, map_places}
use Rattle.tantivy_stacker.specs.Beside.{EmptyAreBeside, ListWritesBeside, MapWritesBeside}
use Rattle.tantivy_stacker.specs.declared.expull.ExpUnrolledLinkedList.{ExpUnrolledLinkedList}
use Rattle.tantivy_stacker.proofs.ListFacts.{empty_is_held, others_stay, places_lie, lies_before_top}
use Rattle.tantivy_stacker.proofs.Maps.{areas, entry_apart, filter-cons_yes, filter-cons_no}
use Rattle.tantivy_stacker.proofs.Rehashing.{all_areas}
use Rattle.tantivy_stacker.proofs.MapFacts.{empty_held, other_maps}

-- apart is apart from either side
pub swapped : (xs ys : List (ℕ × ℕ)) → All (λ r. IsApart r.0 r.1 ys) xs → All (λ r. IsApart r.0 r.1 xs) ys
swapped xs ys h = λ k d within j e inside. elim (h j e inside k d within) [ inl less ↦ inr less | inr more ↦ inl more ]

-- the places of a map were handed out
areas_lie : (size : ℕ) (a : Arena) (ps : List (ℕ × ℕ)) → ((i : ℕ) → IsTaken ps i → Lies a (place ps i).0 (entry_size size a (place ps i).0)) → All (λ r. Lies a r.0 r.1) (areas size a (filter is_taken ps))
areas_lie size a [] lies = All-nil _
areas_lie size a (p ∷ ps) lies =
    let rest = areas_lie size a ps (λ i taken. lies (suc i) taken) in
    let by : (b : Bool) → is_taken p ≡ b → All (λ r. Lies a r.0 r.1) (areas size a (filter is_taken (p ∷ ps))) =
    λ b. elim b as (λ b. is_taken p ≡ b → All (λ r. Lies a r.0 r.1) (areas size a (filter is_taken (p ∷ ps)))) [
      | true ↦ λ on.
          let here = lies zero (λ e. false≢true (sym (ap not (eq-eqb p.0 4294967295 e)) ∙ on)) in
          subst (λ xs. All (λ r. Lies a r.0 r.1) (areas size a xs)) (sym (filter-cons_yes is_taken p ps on)) (All-cons (λ (r : ℕ × ℕ). Lies a r.0 r.1) (p.0, entry_size size a p.0) (areas size a (filter is_taken ps)) here rest)
      | false ↦ λ off. subst (λ xs. All (λ r. Lies a r.0 r.1) (areas size a xs)) (sym (filter-cons_no is_taken p ps off)) rest
    ] in
    by (is_taken p) refl

map_places_lie : (size : ℕ) (a : Arena) (t : Table) → IsHeldMap size a t → All (λ r. Lies a r.0 r.1) (map_places size a t)
unfolding map_places
map_places_lie size a t h = areas_lie size a t.places h.lies

-- what was handed out before, apart from a list's places, is apart from them after a write
pub list_apart : (old new : Arena) (l m : ExpUnrolledLinkedList) (p n : ℕ) → ListWrite old new l m → p + n ≤ top old → IsApart p n (list_places old l) → IsApart p n (list_places new m)
list_apart old new l m p n w before apart =
    let (fresh, is, above) = w.places in
    let later : All (λ (r : ℕ × ℕ). (p + n ≤ r.0) ⊎ (r.0 + r.1 ≤ p)) fresh = All-weaker (λ (r : ℕ × ℕ). top old ≤ r.0) (λ (r : ℕ × ℕ). (p + n ≤ r.0) ⊎ (r.0 + r.1 ≤ p)) (λ r high. inl (omega arith)) fresh above in
    subst (λ places. IsApart p n places) (sym is) (All-append (λ (r : ℕ × ℕ). (p + n ≤ r.0) ⊎ (r.0 + r.1 ≤ p)) (list_places old l) fresh apart later)

-- and the same of a map
map_apart : (size : ℕ) (old new : Arena) (t u : Table) (p n : ℕ) → MapWrite size old new t u → p + n ≤ top old → IsApart p n (map_places size old t) → IsApart p n (map_places size new u)
unfolding map_places
map_apart size old new t u p n w before apart = all_areas size new p n u.places (λ j taken. here j (w.places j taken))
  where
    here : (j : ℕ) → ((i : ℕ) × IsTaken t.places i × ((place t.places i).0 ≡ (place u.places j).0) × (entry_size size old (place t.places i).0 ≡ entry_size size new (place u.places j).0)) ⊎ (top old ≤ (place u.places j).0)
        → (p + n ≤ (place u.places j).0) ⊎ ((place u.places j).0 + entry_size size new (place u.places j).0 ≤ p)
    here j (inl (i, taken, address, long)) = elim (entry_apart size old p n t.places apart i taken) [ inl less ↦ inl (omega (arith, address)) | inr more ↦ inr (omega (arith, address, long)) ]
    here j (inr high) = inl (omega arith)

pub empty_beside : (size : ℕ) → EmptyAreBeside size
empty_beside size = λ a l t no_bytes no_entries.
    let list = empty_is_held a l no_bytes in
    record {
      list_held = list.held;
      map_held = empty_held size a t no_entries;
      apart = subst (λ places. All (λ r. IsApart r.0 r.1 (map_places size a t)) places) (sym list.places_are) (All-nil _);
    }

pub list_beside : {V : Type 0} (size : ℕ) (item : List ℕ → V) → 1 ≤ size → ListWritesBeside size item
list_beside size item some = λ old new l m t beside w.
    let away = swapped (list_places old l) (map_places size old t) beside.apart in
    let (held, stays, same) = other_maps size item some old new (list_places old l) t w.others beside.map_held away in
    let still : All (λ r. IsApart r.0 r.1 (list_places new m)) (map_places size old t) =
    λ k d within. list_apart old new l m _ _ w (lies_before_top old _ _ (map_places_lie size old t beside.map_held k d within)) (away k d within) in (
      record {
        list_held = w.held;
        map_held = held;
        apart = swapped (map_places size new t) (list_places new m) (subst (λ places. All (λ r. IsApart r.0 r.1 (list_places new m)) places) (sym same) still);
      },
      stays,
    )

pub map_beside : (size : ℕ) → MapWritesBeside size
map_beside size = λ old new l t u beside w.
    let before : Holds old l (list_bytes old l) (list_places old l) = record { held = beside.list_held; bytes_are = refl; places_are = refl } in
    let list = others_stay old new (map_places size old t) l (list_bytes old l) (list_places old l) w.others before beside.apart in
    let still : All (λ r. IsApart r.0 r.1 (map_places size new u)) (list_places old l) =
    λ k d within. map_apart size old new t u _ _ w (lies_before_top old _ _ (places_lie old l (list_bytes old l) (list_places old l) before k d within)) (beside.apart k d within) in (
      record {
        list_held = list.held;
        map_held = w.held;
        apart = subst (λ places. All (λ r. IsApart r.0 r.1 (map_places size new u)) places) (sym list.places_are) still;
      },
      list.bytes_are,
    )
