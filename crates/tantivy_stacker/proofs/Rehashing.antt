-- A table that is filled from another one.
use Rattle.std.proofs.Common.{◌≡◌, ◌≢◌, ℕ, zero, suc, ◌+◌, ◌<◌, ◌≤◌, ◌⊎◌, inl, inr, Bool, true, false, not, cond, filter, Option, Some, None, List, [], ◌∷◌, length, get_or, set, replicate, refl, sym, ap, subst, ◌∙◌, arith, count_by}
use Rattle.std.proofs.lemmas.Bool.{cases_lt, cases_eq, ne_eqb, eq-eqb}
use Rattle.std.proofs.lemmas.List.{get_or-replicate, get_or_past, get_or_read, length-set, length-replicate, take_all}
use Rattle.std.proofs.lemmas.List.Sums.{count_by_more_yes, count_by_more_no}
use Rattle.std.proofs.lemmas.List.Folds.{sum_by-replicate}
use Rattle.tantivy_stacker.specs.Arena.{Arena, Lies, bytes_at}
use Rattle.tantivy_stacker.specs.Hashing.{hash_of}
use Rattle.tantivy_stacker.specs.Maps.{Table, place, is_taken, IsTaken, Leads, IsFiled, key_at, value_place, entry_size, IsHeldMap, HasEntry, MapStays, MapPuts, MapWrite, map_places, Finds, AreUnique, Rehashes, IsFiledAnew}
use Rattle.tantivy_stacker.proofs.Inserting.{put_here, put_there, put_leads, put_filed_here, put_count, cases_put}
use Rattle.std.proofs.lemmas.List.Elements.{All-nil, All-cons}
use Rattle.std.proofs.lemmas.Bool.{false≢true}
use Rattle.tantivy_stacker.specs.Lists.{IsApart}
use Rattle.tantivy_stacker.specs.Probes.{IsAbsent}
use Rattle.tantivy_stacker.proofs.Maps.{areas, entry_apart, filter-cons_yes, filter-cons_no}
use Rattle.tantivy_stacker.proofs.Tables.{taken-below}

-- an empty table
pub free_everywhere : (n j : ℕ) → IsTaken (replicate n (4294967295, 0)) j → ⊥
free_everywhere n j taken =
    elim (cases_lt j n) [
      | inl less ↦ taken (ap (λ (p : ℕ × ℕ). p.0) (get_or-replicate n j (4294967295, 0) (4294967295, 0) less))
      | inr more ↦ taken (ap (λ (p : ℕ × ℕ). p.0) (get_or_past (replicate n (4294967295, 0)) j (4294967295, 0) (rw (length-replicate {A = ℕ × ℕ} n (4294967295, 0)) more)))
    ]

pub none_taken : (n : ℕ) → count_by is_taken (replicate n (4294967295, 0)) ≡ 0
none_taken n = sum_by-replicate {X = ℕ × ℕ} (λ q. cond {A = ℕ} (is_taken q) 1 0) n (4294967295, 0) ∙ omega arith

pub rehash_free : (ps qs : List (ℕ × ℕ)) (k : ℕ) → Rehashes ps qs k → k < length ps → (place ps k).0 ≡ 4294967295 → Rehashes ps qs (k + 1)
rehash_free ps qs k h within free = record {
  filed = λ i less taken. elim (cases_eq i k) [
    | inl e ↦ absurd (taken (ap (λ n. (place ps n).0) e ∙ free))
    | inr ne ↦ h.filed i (omega arith) taken
  ];
  source = λ j taken. (let s = h.source j taken in (s.0, omega (arith, s.1), s.2, s.3));
  unique = h.unique;
  counted = h.counted ∙ sym (count_by_more_no is_taken ps k (4294967295, 0) within (ap not (eq-eqb (place ps k).0 4294967295 free)));
}

-- no place of the table so far has the address of place k
alien : (ps qs : List (ℕ × ℕ)) (k : ℕ) → AreUnique ps → Rehashes ps qs k → IsTaken ps k → (j : ℕ) → IsTaken qs j → (place qs j).0 ≡ (place ps k).0 → ⊥
alien ps qs k unique h taken j tj same =
    let s = h.source j tj in
    let e : s.0 ≡ k = unique s.0 k s.2 taken (ap (λ (p : ℕ × ℕ). p.0) s.3 ∙ same) in
    absurd (omega (arith, s.1))

-- what was filed stays so
refiled : (qs : List (ℕ × ℕ)) (b : ℕ) (p : ℕ × ℕ) → b < length qs → (place qs b).0 ≡ 4294967295 → p.0 ≢ 4294967295 → (q : ℕ × ℕ) → q.0 ≢ 4294967295 → IsFiled qs q → IsFiled (set qs b p) q
refiled qs b p inside free taken q tq f =
    let apart : f.at ≢ b = λ e. tq (ap (λ (r : ℕ × ℕ). r.0) (sym f.is) ∙ (ap (λ n. (place qs n).0) e ∙ free)) in
    record { at = f.at; leads = put_leads qs b p inside free taken q.1 f.at f.leads; is = put_there qs b p inside free taken f.at apart ∙ f.is }

pub rehash_taken : (ps qs : List (ℕ × ℕ)) (k b : ℕ) → AreUnique ps → Rehashes ps qs k → k < length ps → IsTaken ps k → Leads qs (place ps k).1 b → (place qs b).0 ≡ 4294967295 → b < length qs → Rehashes ps (set qs b (place ps k)) (k + 1)
rehash_taken ps qs k b unique h within taken leads free inside = record {
  filed = λ i less ti. elim (cases_eq i k) [
    | inl e ↦ subst (λ n. IsFiled (set qs b (place ps k)) (place ps n)) (sym e) (put_filed_here qs b (place ps k) inside free taken leads)
    | inr ne ↦ refiled qs b (place ps k) inside free taken (place ps i) ti (h.filed i (omega arith) ti)
  ];
  source = λ j tj. elim (cases_put qs b (place ps k) inside free taken j tj) [
    | inl e ↦ (k, omega arith, taken, sym (ap (place (set qs b (place ps k))) e ∙ put_here qs b (place ps k) inside free taken))
    | inr old ↦ (let s = h.source j old.1 in (s.0, omega (arith, s.1), s.2, s.3 ∙ sym (put_there qs b (place ps k) inside free taken j old.0)))
  ];
  unique = λ i j ti tj same.
      elim (cases_put qs b (place ps k) inside free taken i ti) [
        | inl e ↦ elim (cases_put qs b (place ps k) inside free taken j tj) [
          | inl e' ↦ e ∙ sym e'
          | inr old ↦ absurd (alien ps qs k unique h taken j old.1 (ap (λ (p : ℕ × ℕ). p.0) (sym (put_there qs b (place ps k) inside free taken j old.0)) ∙ (sym same ∙ ap (λ (p : ℕ × ℕ). p.0) (ap (place (set qs b (place ps k))) e ∙ put_here qs b (place ps k) inside free taken))))
        ]
        | inr old ↦ elim (cases_put qs b (place ps k) inside free taken j tj) [
          | inl e' ↦ absurd (alien ps qs k unique h taken i old.1 (ap (λ (p : ℕ × ℕ). p.0) (sym (put_there qs b (place ps k) inside free taken i old.0)) ∙ (same ∙ ap (λ (p : ℕ × ℕ). p.0) (ap (place (set qs b (place ps k))) e' ∙ put_here qs b (place ps k) inside free taken))))
          | inr old' ↦ h.unique i j old.1 old'.1 (ap (λ (p : ℕ × ℕ). p.0) (sym (put_there qs b (place ps k) inside free taken i old.0)) ∙ (same ∙ ap (λ (p : ℕ × ℕ). p.0) (put_there qs b (place ps k) inside free taken j old'.0)))
        ]
      ];
  counted =
      let more = count_by_more_yes is_taken ps k (4294967295, 0) within (ap not (ne_eqb (place ps k).0 4294967295 taken)) in
      let put = put_count qs b (place ps k) inside free taken in
      let old = h.counted in
      omega arith;
}

-- one place more
pub rehash_step : (ps qs rs : List (ℕ × ℕ)) (k : ℕ) (x : ℕ × ℕ) → AreUnique ps → Rehashes ps qs k → k < length ps → x ≡ get_or ps k x → (x.0 ≡ 4294967295 → rs ≡ qs) → (x.0 ≢ 4294967295 → IsFiledAnew qs rs x) → Rehashes ps rs (k + 1) × (length rs ≡ length qs)
rehash_step ps qs rs k x unique h within read free filed =
    let same : x ≡ place ps k = get_or_read ps k x within read (4294967295, 0) in
    elim (cases_eq x.0 4294967295) [
      | inl e ↦ rw (free e) (rehash_free ps qs k h within (ap (λ (p : ℕ × ℕ). p.0) (sym same) ∙ e), refl)
      | inr ne ↦
          (let f = filed ne in
          let list : rs ≡ set qs f.at (place ps k) = f.is ∙ ap (set qs f.at) same in
          let taken : IsTaken ps k = λ e. ne (ap (λ (p : ℕ × ℕ). p.0) same ∙ e) in
          let leads : Leads qs (place ps k).1 f.at = subst (λ (p : ℕ × ℕ). Leads qs p.1 f.at) same f.leads in
          rw list (rehash_taken ps qs k f.at unique h within taken leads f.free f.within, length-set qs f.at (place ps k)))
    ]

-- ---- a map whose table was rehashed
module _ (size : ℕ) (a : Arena) (t : Table) (qs : List (ℕ × ℕ)) (h : IsHeldMap size a t) (r : Rehashes t.places qs (length t.places)) (some : 2 ≤ length qs) (room : t.count < length qs) where
  pub rehashed_held : IsHeldMap size a (record { places = qs; count = t.count })
  rehashed_held = record {
    some = some;
    room = room;
    counted = r.counted ∙ (ap (count_by is_taken) (take_all (length t.places) t.places (omega arith)) ∙ h.counted);
    lies = λ j tj. (let s = r.source j tj in subst (λ (p : ℕ × ℕ). Lies a p.0 (entry_size size a p.0)) s.3 (h.lies s.0 s.2));
    hashed = λ j tj. (let s = r.source j tj in subst (λ (p : ℕ × ℕ). p.1 ≡ hash_of (key_at a p.0)) s.3 (h.hashed s.0 s.2));
    filed = λ j tj. (let s = r.source j tj in subst (IsFiled qs) s.3 (r.filed s.0 s.1 s.2));
    distinct = λ i j ti tj same.
        let s = r.source i ti in
        let u = r.source j tj in
        let one : s.0 ≡ u.0 = h.distinct s.0 u.0 s.2 u.2 (ap (λ (p : ℕ × ℕ). key_at a p.0) s.3 ∙ (same ∙ ap (λ (p : ℕ × ℕ). key_at a p.0) (sym u.3))) in
        r.unique i j ti tj (ap (λ (p : ℕ × ℕ). p.0) (sym s.3 ∙ (ap (place t.places) one ∙ u.3)));
    apart = λ i j ti tj ne.
        let s = r.source i ti in
        let u = r.source j tj in
        let differ : s.0 ≢ u.0 = λ one. ne (r.unique i j ti tj (ap (λ (p : ℕ × ℕ). p.0) (sym s.3 ∙ (ap (place t.places) one ∙ u.3)))) in
        subst (λ (p : ℕ × ℕ). (p.0 + entry_size size a p.0 ≤ (place qs j).0) ⊎ ((place qs j).0 + entry_size size a (place qs j).0 ≤ p.0)) s.3
        (subst (λ (q : ℕ × ℕ). ((place t.places s.0).0 + entry_size size a (place t.places s.0).0 ≤ q.0) ⊎ (q.0 + entry_size size a q.0 ≤ (place t.places s.0).0)) u.3 (h.apart s.0 u.0 s.2 u.2 differ));
  }

-- entries stay
pub rehashed_stays : {V : Type 0} (size : ℕ) (item : List ℕ → V) (a : Arena) (t : Table) (qs : List (ℕ × ℕ)) → Rehashes t.places qs (length t.places) → MapStays size item a a t (record { places = qs; count = t.count })
rehashed_stays size item a t qs r = record {
  kept = λ k w g.
      let f = r.filed g.at (taken-below t.places g.at g.taken) g.taken in
      record {
        at = f.at;
        taken = λ free. g.taken (ap (λ (p : ℕ × ℕ). p.0) (sym f.is) ∙ free);
        key_is = ap (λ (p : ℕ × ℕ). key_at a p.0) f.is ∙ g.key_is;
        value_is = ap (λ (p : ℕ × ℕ). item (bytes_at a (value_place a p.0) size)) f.is ∙ g.value_is;
      };
  only = λ k w g.
      let s = r.source g.at g.taken in
      record {
        at = s.0;
        taken = s.2;
        key_is = ap (λ (p : ℕ × ℕ). key_at a p.0) s.3 ∙ g.key_is;
        value_is = ap (λ (p : ℕ × ℕ). item (bytes_at a (value_place a p.0) size)) s.3 ∙ g.value_is;
      };
}

-- a key that is absent has no entry
absent_at : {V : Type 0} (size : ℕ) (item : List ℕ → V) (a : Arena) (u : Table) (key : List ℕ) {v : V} → IsAbsent a u.places key → HasEntry size item a u key v → ⊥
absent_at size item a u key absent g = absent g.at g.taken g.key_is

-- ---- a call after a rehash
module _ {V : Type 0} (size : ℕ) (item : List ℕ → V) (a : Arena) (t u : Table) (s : MapStays size item a a t u) where
  pub finds_after : (key : List ℕ) (found : Option V) → Finds size item a u key found → Finds size item a t key found
  finds_after key None absent = λ i taken same. absent_at size item a u key absent (s.kept key (item (bytes_at a (value_place a (place t.places i).0) size)) (record { at = i; taken = taken; key_is = same; value_is = refl }))
  finds_after key (Some v) entry = s.only key v entry

  pub puts_after : (c : Arena) (w : Table) (key : List ℕ) (v : V) → MapPuts size item a c u w key v → MapPuts size item a c t w key v
  puts_after c w key v p = record {
    entry = p.entry;
    kept = λ k x ne g. p.kept k x ne (s.kept k x g);
    only = λ k x ne g. s.only k x (p.only k x ne g);
  }

  pub absent_after : (key : List ℕ) → IsAbsent a u.places key → IsAbsent a t.places key
  absent_after key absent = λ i taken same. absent_at size item a u key absent (s.kept key (item (bytes_at a (value_place a (place t.places i).0) size)) (record { at = i; taken = taken; key_is = same; value_is = refl }))

  pub absent_before : (key : List ℕ) → IsAbsent a t.places key → IsAbsent a u.places key
  absent_before key absent = λ i taken same. absent_at size item a t key absent (s.only key (item (bytes_at a (value_place a (place u.places i).0) size)) (record { at = i; taken = taken; key_is = same; value_is = refl }))

-- the places of a map and of the one before the rehash are the same
pub all_areas : (size : ℕ) (a : Arena) (q n : ℕ) (ps : List (ℕ × ℕ)) → ((i : ℕ) → IsTaken ps i → (q + n ≤ (place ps i).0) ⊎ ((place ps i).0 + entry_size size a (place ps i).0 ≤ q)) → IsApart q n (areas size a (filter is_taken ps))
all_areas size a q n [] apart = All-nil _
all_areas size a q n (p ∷ ps) apart =
    let rest = all_areas size a q n ps (λ i taken. apart (suc i) taken) in
    let by : (b : Bool) → is_taken p ≡ b → IsApart q n (areas size a (filter is_taken (p ∷ ps))) =
    λ b. elim b as (λ b. is_taken p ≡ b → IsApart q n (areas size a (filter is_taken (p ∷ ps)))) [
      | true ↦ λ on.
          let here = apart zero (λ e. false≢true (sym (ap not (eq-eqb p.0 4294967295 e)) ∙ on)) in
          subst (λ xs. IsApart q n (areas size a xs)) (sym (filter-cons_yes is_taken p ps on)) (All-cons (λ (r : ℕ × ℕ). (q + n ≤ r.0) ⊎ (r.0 + r.1 ≤ q)) (p.0, entry_size size a p.0) (areas size a (filter is_taken ps)) here rest)
      | false ↦ λ off. subst (λ xs. IsApart q n (areas size a xs)) (sym (filter-cons_no is_taken p ps off)) rest
    ] in
    by (is_taken p) refl

pub write_after : (size : ℕ) (a c : Arena) (t u w : Table) → Rehashes t.places u.places (length t.places) → MapWrite size a c u w → MapWrite size a c t w
unfolding map_places
write_after size a c t u w r m = record {
  held = m.held;
  others = record {
    limit = m.others.limit;
    lies = m.others.lies;
    reads = λ q n g apart. m.others.reads q n g (all_areas size a q n u.places (λ j taken.
        (let s = r.source j taken in
        subst (λ (p : ℕ × ℕ). (q + n ≤ p.0) ⊎ (p.0 + entry_size size a p.0 ≤ q)) s.3 (entry_apart size a q n t.places apart s.0 s.2))));
  };
  places = λ j taken. elim (m.places j taken) [
    | inl old ↦ (let s = r.source old.0 old.1 in inl (s.0, s.2, ap (λ (p : ℕ × ℕ). p.0) s.3 ∙ old.2, ap (λ (p : ℕ × ℕ). entry_size size a p.0) s.3 ∙ old.3))
    | inr fresh ↦ inr fresh
  ];
  end = m.end;
}

-- a map that was rehashed and then left as it was
pub rehashed_write : (size : ℕ) (a : Arena) (t u : Table) → Rehashes t.places u.places (length t.places) → IsHeldMap size a u → MapWrite size a a t u
rehashed_write size a t u r h = record {
  held = h;
  others = record { limit = refl; lies = λ q n g. g; reads = λ q n g apart. refl };
  places = λ j taken. (let s = r.source j taken in inl (s.0, s.2, ap (λ (p : ℕ × ℕ). p.0) s.3, ap (λ (p : ℕ × ℕ). entry_size size a p.0) s.3));
  end = omega arith;
}

pub same_write : (size : ℕ) (a : Arena) (t : Table) → IsHeldMap size a t → MapWrite size a a t t
same_write size a t h = record {
  held = h;
  others = record { limit = refl; lies = λ q n g. g; reads = λ q n g apart. refl };
  places = λ j taken. inl (j, taken, refl, refl);
  end = omega arith;
}

pub same_stays : {V : Type 0} (size : ℕ) (item : List ℕ → V) (a : Arena) (t : Table) → MapStays size item a a t t
same_stays size item a t = record { kept = λ k w g. g; only = λ k w g. g }
