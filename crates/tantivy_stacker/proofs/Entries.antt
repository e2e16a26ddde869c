-- The entries of a map, and the search for one.
use Rattle.std.proofs.Common.{◌≡◌, ◌≢◌, ℕ, ◌+◌, ◌%◌, ◌^◌, ◌<◌, ◌≤◌, inl, inr, List, length, sym, ap, subst, ◌∙◌, arith}
use Rattle.std.proofs.Math.Nat.{mod-eq_of_lt}
use Rattle.std.proofs.lemmas.Bool.{cases_lt, cases_eq}
use Rattle.tantivy_stacker.specs.Arena.{Arena, Lies}
use Rattle.tantivy_stacker.specs.Hashing.{hash_of}
use Rattle.tantivy_stacker.specs.Maps.{place, IsTaken, home, turn, key_length, key_at}
use Rattle.tantivy_stacker.specs.Probes.{IsSearchable, IsFreeFor}
use Rattle.tantivy_stacker.proofs.Chains.{Lies-front, Lies-back}
use Rattle.tantivy_stacker.proofs.Lists.{Lies-small}
use borrow.Author.Count.{below_more}
use Rattle.tantivy_stacker.proofs.Tables.{home-below, turn-first, after, search_more, all_taken}

-- ---- parts of an entry
module _ (a : Arena) (e m : ℕ) (h : Lies a e (2 + key_length a e + m)) (some : 1 ≤ m) where
  body : Lies a (e + 2) (key_length a e + m)
  body = Lies-back a e 2 (key_length a e + m) (Lies-front (2 + (key_length a e + m)) (omega arith) h) (omega arith)

  pub key_lies : Lies a (e + 2) (key_length a e)
  key_lies = Lies-front (key_length a e) (omega arith) body

  pub value_lies : Lies a (e + (2 + key_length a e)) m
  value_lies = Lies-back a e (2 + key_length a e) m h some

  pub key_place : (q : ℕ) → length a.pages ≤ 4096 → q ≡ (e + 2) % 2 ^ 32 → q ≡ e + 2
  key_place q few is = (let small = Lies-small a e (2 + key_length a e + m) few h in is ∙ mod-eq_of_lt (omega arith))

  pub value_place_is : (q k : ℕ) → length a.pages ≤ 4096 → k ≡ key_length a e → q ≡ (e + (2 + k)) % 2 ^ 32 → q ≡ e + (2 + key_length a e)
  value_place_is q k few len is = (let small = Lies-small a e (2 + key_length a e + m) few h in is ∙ (mod-eq_of_lt (omega arith) ∙ omega arith))

pub place_after : (a : Arena) (e n k q : ℕ) → Lies a e n → length a.pages ≤ 4096 → k < n → q ≡ (e + k) % 2 ^ 32 → q ≡ e + k
place_after a e n k q h few less is = (let small = Lies-small a e n few h in is ∙ mod-eq_of_lt (omega arith))

-- ---- a search that met only other keys
pub record IsSearching (a : Arena) (ps : List (ℕ × ℕ)) (key : List ℕ) (hash step bucket : ℕ) : Type 0 where
  pub at : bucket ≡ turn (length ps) (home (length ps) hash) step
  pub within : bucket < length ps
  pub taken : (d : ℕ) → d < step → IsTaken ps (turn (length ps) (home (length ps) hash) d)
  pub others : (d : ℕ) → d < step → key_at a (place ps (turn (length ps) (home (length ps) hash) d)).0 ≢ key

-- a free place ends it
pub ends_free : (a : Arena) (ps : List (ℕ × ℕ)) (key : List ℕ) (hash step bucket : ℕ) → IsSearchable a ps → hash ≡ hash_of key → IsSearching a ps key hash step bucket → step < length ps → (place ps bucket).0 ≡ 4294967295 → IsFreeFor a ps key hash bucket
ends_free a ps key hash step bucket table hash_is s within free = record {
  leads = record { steps = step; near = within; there = sym s.at; before = s.taken };
  free = free;
  within = s.within;
  absent = λ j taken same.
      let n = length ps in
      let filed = table.filed j taken in
      let leads = filed.leads in
      let hash_j : (place ps j).1 ≡ hash = table.hashed j taken ∙ (ap hash_of same ∙ sym hash_is) in
      let there : turn n (home n hash) leads.steps ≡ filed.at = subst (λ k. turn n (home n k) leads.steps ≡ filed.at) hash_j leads.there in
      let is : place ps (turn n (home n hash) leads.steps) ≡ place ps j = ap (place ps) there ∙ filed.is in
      elim (cases_lt leads.steps step) [
        | inl earlier ↦ s.others leads.steps earlier (ap (λ (p : ℕ × ℕ). key_at a p.0) is ∙ same)
        | inr later ↦
            elim (cases_eq leads.steps step) [
              | inl e ↦ taken (ap (λ (p : ℕ × ℕ). p.0) (sym is) ∙ (ap (λ d. (place ps (turn n (home n hash) d)).0) e ∙ (ap (λ i. (place ps i).0) (sym s.at) ∙ free)))
              | inr ne ↦ leads.before step (omega arith) (ap (λ k. (place ps (turn n (home n k) step)).0) hash_j ∙ (ap (λ i. (place ps i).0) (sym s.at) ∙ free))
            ]
      ];
}

pub searching_begin : (a : Arena) (ps : List (ℕ × ℕ)) (key : List ℕ) (hash bucket : ℕ) → bucket ≡ home (length ps) hash → bucket < length ps → IsSearching a ps key hash 0 bucket
searching_begin a ps key hash bucket is below = record {
  at = is ∙ sym (turn-first (length ps) (home (length ps) hash) (subst (λ k. k < length ps) is below));
  within = below;
  taken = λ d h. absurd (omega arith);
  others = λ d h. absurd (omega arith);
}

pub searching_more : (a : Arena) (ps : List (ℕ × ℕ)) (key : List ℕ) (hash step bucket next : ℕ) → IsSearching a ps key hash step bucket → step < length ps → next ≡ after (length ps) bucket → IsTaken ps bucket → key_at a (place ps bucket).0 ≢ key → IsSearching a ps key hash (step + 1) next
searching_more a ps key hash step bucket next s within next_is taken other =
    let more = search_more ps (home (length ps) hash) step bucket next (home-below (length ps) hash (omega arith)) within s.at next_is taken s.taken in
    record {
      at = more.0;
      within = more.1;
      taken = more.2;
      others = below_more _ _ s.others (λ e. other (ap (λ i. key_at a (place ps i).0) s.at ∙ e));
    }

pub search_ends : (a : Arena) (ps : List (ℕ × ℕ)) (key : List ℕ) (hash step bucket : ℕ) → IsSearchable a ps → IsSearching a ps key hash step bucket → length ps ≤ step → ⊥
search_ends a ps key hash step bucket table s le =
    let within = s.within in
    all_taken ps (home (length ps) hash) (home-below (length ps) hash (omega arith)) table.room (λ d h. s.taken d (omega arith))
