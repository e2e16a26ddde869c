-- The laws of maps.
use Rattle.std.proofs.Common.{◌≡◌, ℕ, zero, suc, ◌+◌, ◌-◌, ◌^◌, ◌≤◌, inl, inr, Bool, true, false, not, filter, List, [], ◌∷◌, ◌++◌, length, take, replicate, refl, sym, ap, subst, ◌∙◌, arith, count_by, Result, Ok, Err, IfOk}
use Rattle.std.specs.List.{All}
use Rattle.std.proofs.Math.Nat.{pow-le-pow_right}
use Rattle.std.proofs.lemmas.Bool.{cases_eq, ne_eqb, eq-eqb, false≢true}
use Rattle.std.proofs.lemmas.List.{length-replicate}
use Rattle.tantivy_stacker.specs.Arena.{Arena, Lies, bytes_at}
use Rattle.tantivy_stacker.specs.Lists.{IsApart, KeepsBut}
use Rattle.tantivy_stacker.specs.Hashing.{hash_of}
use Rattle.tantivy_stacker.specs.Maps.{Table, place, is_taken, IsTaken, key_length, key_at, value_place, entry_size, map_places, IsEmptyMap, IsTableSize, EmptyMapIsHeld, EmptyMapHasNone, EntriesAreOne, OtherMapsStay}
use Rattle.std.specs.Int.{w16, from_le_bytes}
use Rattle.tantivy_stacker.proofs.Chains.{Lies-front, IsApart-part}
use Rattle.tantivy_stacker.proofs.Entries.{key_lies, value_lies}
use Rattle.tantivy_stacker.proofs.Maps.{areas, filter-cons_yes, filter-cons_no}
use Rattle.tantivy_stacker.proofs.Rehashing.{free_everywhere, none_taken}

take-none : (n : ℕ) → take {A = ℕ × ℕ} n [] ≡ []
take-none zero = refl
take-none (suc n) = refl

pub grown_from_none : (n len : ℕ) (old : List (ℕ × ℕ)) (x : ℕ × ℕ) → old ≡ [] → len ≡ 0 → take n old ++ replicate (n - len) x ≡ replicate n x
grown_from_none n len old x none zero_len =
    let front : take n old ≡ [] = ap (take n) none ∙ take-none n in
    let rest : n - len ≡ n = omega arith in
    ap (λ zs. zs ++ replicate (n - len) x) front ∙ ap (λ k. replicate k x) rest

pub new_table : (n m : ℕ) (items : List (ℕ × ℕ)) (free : ℕ × ℕ) → 2 ≤ n → free ≡ (4294967295, 0) → items ≡ replicate n free → m ≡ 0 → IsEmptyMap (record { places = items; count = m })
unfolding IsEmptyMap
new_table n m items free some is list none =
    let all : items ≡ replicate n (4294967295, 0) = list ∙ ap (replicate n) is in
    let len : length items ≡ n = ap length all ∙ length-replicate {A = ℕ × ℕ} n (4294967295, 0) in
    (all ∙ ap (λ k. replicate k (4294967295, 0)) (sym len), none, omega arith)

-- a table for four entries has four places
four_places : (n : ℕ) → IsTableSize 4 n → n ≡ 4
unfolding IsTableSize
four_places n h =
    let k = h.0 in
    let is : n ≡ 2 ^ k = h.1 in
    let more = h.4 in
    elim (cases_eq k 1) [
      | inl one ↦ (let two : n ≡ 2 = is ∙ ap (λ j. 2 ^ j) one in absurd (omega arith))
      | inr other ↦
          elim (cases_eq k 2) [
            | inl two ↦ is ∙ ap (λ j. 2 ^ j) two
            | inr none ↦
                (let some = h.2 in
                let big : 2 ^ 3 ≤ 2 ^ k = pow-le-pow_right {n = 2} (omega arith) {i = 3} {j = k} (omega arith) in
                elim h.3 [ inl less ↦ absurd (omega arith) | inr two ↦ absurd (omega arith) ])
          ]
    ]

pub ok_four : {A E : Type 0} (result : Result A E) (places : A → ℕ) → IfOk result (λ m. IsTableSize 4 (places m)) → IfOk result (λ m. places m ≡ 4)
ok_four (Ok m) places h = four_places (places m) h
ok_four (Err e) places h = tt

all_free : (t : Table) → IsEmptyMap t → (i : ℕ) → IsTaken t.places i → ⊥
unfolding IsEmptyMap
all_free t e i taken = free_everywhere (length t.places) i (subst (λ (ps : List (ℕ × ℕ)). IsTaken ps i) e.0 taken)

pub empty_held : (size : ℕ) → EmptyMapIsHeld size
unfolding IsEmptyMap
empty_held size = λ a t e.
    let none = e.1 in
    let some = e.2 in
    record {
      some = e.2;
      room = omega arith;
      counted = ap (count_by is_taken) e.0 ∙ (none_taken (length t.places) ∙ sym e.1);
      lies = λ i taken. absurd (all_free t e i taken);
      hashed = λ i taken. absurd (all_free t e i taken);
      filed = λ i taken. absurd (all_free t e i taken);
      distinct = λ i j taken. absurd (all_free t e i taken);
      apart = λ i j taken. absurd (all_free t e i taken);
    }

pub empty_none : {V : Type 0} (size : ℕ) (item : List ℕ → V) → EmptyMapHasNone size item
empty_none size item = λ a t key v e g. all_free t e g.at g.taken

pub entries_one : {V : Type 0} (size : ℕ) (item : List ℕ → V) → EntriesAreOne size item
entries_one size item = λ a t key v w h f g.
    let same : f.at ≡ g.at = h.distinct f.at g.at f.taken g.taken (f.key_is ∙ sym g.key_is) in
    sym f.value_is ∙ (ap (λ i. item (bytes_at a (value_place a (place t.places i).0) size)) same ∙ g.value_is)

-- ---- a map whose places are apart from what changed
abbrev AllApart : ℕ → Arena → List (ℕ × ℕ) → List (ℕ × ℕ) → Type 0
AllApart size a changed xs = All (λ (r : ℕ × ℕ). IsApart r.0 r.1 changed) (areas size a xs)

rest_apart : (size : ℕ) (a : Arena) (changed : List (ℕ × ℕ)) (p : ℕ × ℕ) (ps : List (ℕ × ℕ)) → AllApart size a changed (filter is_taken (p ∷ ps)) → AllApart size a changed (filter is_taken ps)
rest_apart size a changed p ps apart =
    let by : (b : Bool) → is_taken p ≡ b → AllApart size a changed (filter is_taken ps) =
    λ b. elim b as (λ b. is_taken p ≡ b → AllApart size a changed (filter is_taken ps)) [
      | true ↦ λ on.
          let whole : AllApart size a changed (p ∷ filter is_taken ps) = subst (AllApart size a changed) (filter-cons_yes is_taken p ps on) apart in
          λ k d l. whole (suc k) d (omega arith)
      | false ↦ λ off. subst (AllApart size a changed) (filter-cons_no is_taken p ps off) apart
    ] in
    by (is_taken p) refl

area_apart : (size : ℕ) (a : Arena) (changed : List (ℕ × ℕ)) (ps : List (ℕ × ℕ)) → AllApart size a changed (filter is_taken ps) → (i : ℕ) → IsTaken ps i → IsApart (place ps i).0 (entry_size size a (place ps i).0) changed
area_apart size a changed [] apart i taken = absurd (taken refl)
area_apart size a changed (p ∷ ps) apart zero taken =
    let on : is_taken p ≡ true = ap not (ne_eqb p.0 4294967295 taken) in
    let whole : AllApart size a changed (p ∷ filter is_taken ps) = subst (AllApart size a changed) (filter-cons_yes is_taken p ps on) apart in
    whole 0 (p.0, entry_size size a p.0) (omega arith)
area_apart size a changed (p ∷ ps) apart (suc i) taken = area_apart size a changed ps (rest_apart size a changed p ps apart) i taken

same_areas : (size : ℕ) (a c : Arena) (ps : List (ℕ × ℕ)) → ((i : ℕ) → IsTaken ps i → key_length c (place ps i).0 ≡ key_length a (place ps i).0) → areas size c (filter is_taken ps) ≡ areas size a (filter is_taken ps)
same_areas size a c [] same = refl
same_areas size a c (p ∷ ps) same =
    let rest = same_areas size a c ps (λ i taken. same (suc i) taken) in
    let by : (b : Bool) → is_taken p ≡ b → areas size c (filter is_taken (p ∷ ps)) ≡ areas size a (filter is_taken (p ∷ ps)) =
    λ b. elim b as (λ b. is_taken p ≡ b → areas size c (filter is_taken (p ∷ ps)) ≡ areas size a (filter is_taken (p ∷ ps))) [
      | true ↦ λ on.
          let here = same zero (λ e. false≢true (sym (ap not (eq-eqb p.0 4294967295 e)) ∙ on)) in
          rw (filter-cons_yes is_taken p ps on) (rw here (ap (λ xs. (p.0, 2 + key_length a p.0 + size) ∷ xs) rest))
      | false ↦ λ off. rw (filter-cons_no is_taken p ps off) rest
    ] in
    by (is_taken p) refl

module _ (size : ℕ) (old new : Arena) (changed : List (ℕ × ℕ)) (e : ℕ) (some : 1 ≤ size) (keeps : KeepsBut old new changed) (h : Lies old e (entry_size size old e)) (apart : IsApart e (entry_size size old e) changed) where
  part : (q n : ℕ) → e ≤ q → q + n ≤ e + entry_size size old e → Lies old q n → bytes_at new q n ≡ bytes_at old q n
  part q n lower upper lies = keeps.reads q n lies (IsApart-part e (entry_size size old e) q n lower upper changed apart)

  entry_length : key_length new e ≡ key_length old e
  unfolding key_length
  entry_length = ap (from_le_bytes w16) (part e 2 (omega arith) (omega arith) (Lies-front 2 (omega arith) h))

  entry_key : key_at new e ≡ key_at old e
  unfolding key_at
  entry_key = ap (bytes_at new (e + 2)) entry_length ∙ part (e + 2) (key_length old e) (omega arith) (omega arith) (key_lies old e size h some)

  entry_value : bytes_at new (value_place new e) size ≡ bytes_at old (value_place old e) size
  entry_value = ap (λ k. bytes_at new (e + (2 + k)) size) entry_length ∙ part (e + (2 + key_length old e)) size (omega arith) (omega arith) (value_lies old e size h some)

pub other_maps : {V : Type 0} (size : ℕ) (item : List ℕ → V) → 1 ≤ size → OtherMapsStay size item
unfolding map_places
other_maps size item some = λ old new changed t keeps h apart.
    let ps = t.places in
    let clear : (i : ℕ) → IsTaken t.places i → IsApart (place t.places i).0 (entry_size size old (place t.places i).0) changed = λ i taken. area_apart size old changed t.places apart i taken in
    let len : (i : ℕ) → IsTaken t.places i → key_length new (place t.places i).0 ≡ key_length old (place t.places i).0 = λ i taken. entry_length size old new changed (place t.places i).0 some keeps (h.lies i taken) (clear i taken) in
    let key : (i : ℕ) → IsTaken t.places i → key_at new (place t.places i).0 ≡ key_at old (place t.places i).0 = λ i taken. entry_key size old new changed (place t.places i).0 some keeps (h.lies i taken) (clear i taken) in
    let value : (i : ℕ) → IsTaken t.places i → bytes_at new (value_place new (place t.places i).0) size ≡ bytes_at old (value_place old (place t.places i).0) size = λ i taken. entry_value size old new changed (place t.places i).0 some keeps (h.lies i taken) (clear i taken) in (
      record {
        some = h.some;
        room = h.room;
        counted = h.counted;
        lies = λ i taken. subst (λ k. Lies new (place t.places i).0 (2 + k + size)) (sym (len i taken)) (keeps.lies (place t.places i).0 (entry_size size old (place t.places i).0) (h.lies i taken));
        hashed = λ i taken. h.hashed i taken ∙ ap hash_of (sym (key i taken));
        filed = h.filed;
        distinct = λ i j ti tj same. h.distinct i j ti tj (sym (key i ti) ∙ (same ∙ key j tj));
        apart = λ i j ti tj ne.
            let li = len i ti in
            let lj = len j tj in
            elim (h.apart i j ti tj ne) [ inl less ↦ inl (omega arith) | inr more ↦ inr (omega arith) ];
      },
      record {
        kept = λ k w g. record { at = g.at; taken = g.taken; key_is = key g.at g.taken ∙ g.key_is; value_is = ap item (value g.at g.taken) ∙ g.value_is };
        only = λ k w g. record { at = g.at; taken = g.taken; key_is = sym (key g.at g.taken) ∙ g.key_is; value_is = sym (ap item (value g.at g.taken)) ∙ g.value_is };
      },
      same_areas size old new t.places len,
    )
