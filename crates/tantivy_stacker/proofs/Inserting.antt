-- A new entry in a map.
use Rattle.std.proofs.Common.{◌≡◌, ◌≢◌, ℕ, ◌+◌, ◌<◌, ◌≤◌, ◌⊎◌, inl, inr, Bool, not, cond, List, length, set, sym, ap, subst, ◌∙◌, arith, count_by, length-set}
use Rattle.std.specs.Int.{w16, from_le_bytes}
use Rattle.std.proofs.lemmas.Bool.{cases_eq, ne_eqb, eq-eqb}
use Rattle.std.proofs.lemmas.List.{get_or-set_same, get_or-set_other}
use Rattle.std.proofs.lemmas.List.Sums.{sum_by-set}
use Rattle.tantivy_stacker.specs.Arena.{Arena, Lies, bytes_at, Keeps, Writes}
use Rattle.tantivy_stacker.specs.Maps.{place, is_taken, IsTaken, home, turn, Leads, IsFiled, key_length, key_at, value_place, EntryWritten}
use Rattle.tantivy_stacker.proofs.Arena.{Keeps-then, Keeps-wider}
use Rattle.tantivy_stacker.proofs.Chains.{Lies-front, Lies-back}
use Rattle.tantivy_stacker.proofs.Entries.{key_lies, value_lies}

-- ---- what stays of an entry
pub key_length_same : (a c : Arena) (s f e m : ℕ) → Keeps a c s f → Lies a e (2 + m) → (e + 2 ≤ s) ⊎ (f ≤ e) → key_length c e ≡ key_length a e
unfolding key_length
key_length_same a c s f e m keeps h apart = ap (from_le_bytes w16) (keeps.reads e 2 (Lies-front 2 (omega arith) h) apart)

pub key_same : (a c : Arena) (s f e m : ℕ) → Keeps a c s f → Lies a e (2 + key_length a e + m) → 1 ≤ m → (e + (2 + key_length a e) ≤ s) ⊎ (f ≤ e) → (key_length c e ≡ key_length a e) × (key_at c e ≡ key_at a e)
unfolding key_at
key_same a c s f e m keeps h some apart =
    let len = key_length_same a c s f e (key_length a e + m) keeps (Lies-front (2 + (key_length a e + m)) (omega arith) h) (elim apart [ inl below ↦ inl (omega arith) | inr above ↦ inr above ]) in
    (len, ap (bytes_at c (e + 2)) len ∙ keeps.reads (e + 2) (key_length a e) (key_lies a e m h some) (elim apart [ inl below ↦ inl (omega arith) | inr above ↦ inr (omega arith) ]))

pub value_same : (a c : Arena) (s f e m : ℕ) → Keeps a c s f → Lies a e (2 + key_length a e + m) → 1 ≤ m → key_length c e ≡ key_length a e → (e + (2 + key_length a e + m) ≤ s) ⊎ (f ≤ e) → bytes_at c (value_place c e) m ≡ bytes_at a (value_place a e) m
value_same a c s f e m keeps h some len apart =
    ap (λ k. bytes_at c (e + (2 + k)) m) len ∙ keeps.reads (e + (2 + key_length a e)) m (value_lies a e m h some) (elim apart [ inl below ↦ inl (omega arith) | inr above ↦ inr (omega arith) ])

-- ---- writing an entry
pub entry_written : {V : Type 0} (size : ℕ) (item : List ℕ → V) (a b c d : Arena) (e : ℕ) (key head tail : List ℕ) (v : V) → Lies a e (2 + length key + size) → 1 ≤ size → Writes a b e head → length head ≡ 2 → from_le_bytes w16 head ≡ length key → Writes b c (e + 2) key → Writes c d (e + (2 + length key)) tail → length tail ≡ size → item tail ≡ v → EntryWritten size item a d e key v
unfolding key_length key_at
entry_written size item a b c d e key head tail v h some first two len_is second third size_is item_is =
    let front : Lies b e 2 = first.keeps.lies e 2 (Lies-front 2 (omega arith) h) in
    let head_b : bytes_at b e 2 ≡ head = subst (λ k. bytes_at b e k ≡ head) two first.written in
    let head_d : bytes_at d e 2 ≡ head = third.keeps.reads e 2 (second.keeps.lies e 2 front) (inl (omega arith)) ∙ (second.keeps.reads e 2 front (inl (omega arith)) ∙ head_b) in
    let len : from_le_bytes w16 (bytes_at d e 2) ≡ length key = ap (from_le_bytes w16) head_d ∙ len_is in
    let body : Lies a (e + 2) (length key + size) = Lies-back a e 2 (length key + size) (Lies-front (2 + (length key + size)) (omega arith) h) (omega arith) in
    let key_c : Lies c (e + 2) (length key) = second.keeps.lies (e + 2) (length key) (first.keeps.lies (e + 2) (length key) (Lies-front (length key) (omega arith) body)) in
    let key_d : bytes_at d (e + 2) (length key) ≡ key = third.keeps.reads (e + 2) (length key) key_c (inl (omega arith)) ∙ second.written in
    let value_d : bytes_at d (e + (2 + length key)) size ≡ tail = subst (λ k. bytes_at d (e + (2 + length key)) k ≡ tail) size_is third.written in
    let all = e + (2 + length key + size) in
    let one = first.end in
    let two' = second.end in
    let three = third.end in
    let uno = first.spends in
    let due = second.spends in
    let tre = third.spends in
    record {
      keeps = Keeps-then (Keeps-wider e all (omega arith) (omega arith) first.keeps) (Keeps-then (Keeps-wider e all (omega arith) (omega arith) second.keeps) (Keeps-wider e all (omega arith) (omega arith) third.keeps));
      length_is = len;
      key_is = ap (bytes_at d (e + 2)) len ∙ key_d;
      value_is = ap (λ k. item (bytes_at d (e + (2 + k)) size)) len ∙ (ap item value_d ∙ item_is);
      end = omega arith;
      spends = omega arith;
      full = λ m f. third.full m (second.full m (first.full m f));
    }

-- ---- a table with one place more taken
module _ (ps : List (ℕ × ℕ)) (i : ℕ) (p : ℕ × ℕ) (within : i < length ps) (free : (place ps i).0 ≡ 4294967295) (taken : p.0 ≢ 4294967295) where
  pub put_here : place (set ps i p) i ≡ p
  put_here = get_or-set_same ps i p (4294967295, 0) within

  pub put_there : (j : ℕ) → j ≢ i → place (set ps i p) j ≡ place ps j
  put_there j ne = get_or-set_other ps i j p (4294967295, 0) ne

  pub put_length : length (set ps i p) ≡ length ps
  put_length = length-set ps i p

  -- what was taken stays so
  pub still_taken : (j : ℕ) → IsTaken ps j → IsTaken (set ps i p) j
  still_taken j t = elim (cases_eq j i) [
    | inl e ↦ absurd (t (ap (λ k. (place ps k).0) e ∙ free))
    | inr ne ↦ (λ e. t (ap (λ (q : ℕ × ℕ). q.0) (sym (put_there j ne)) ∙ e))
  ]

  pub put_leads : (hash k : ℕ) → Leads ps hash k → Leads (set ps i p) hash k
  put_leads hash k l =
      let near = l.near in
      record {
        steps = l.steps;
        near = omega (arith, put_length);
        there = ap (λ n. turn n (home n hash) l.steps) put_length ∙ l.there;
        before = λ d h. subst (λ n. IsTaken (set ps i p) (turn n (home n hash) d)) (sym put_length) (still_taken (turn (length ps) (home (length ps) hash) d) (l.before d h));
      }

  pub put_filed : (j : ℕ) → IsTaken ps j → IsFiled ps (place ps j) → IsFiled (set ps i p) (place ps j)
  put_filed j t f =
      let apart : f.at ≢ i = λ e. t (ap (λ (q : ℕ × ℕ). q.0) (sym f.is) ∙ (ap (λ k. (place ps k).0) e ∙ free)) in
      record { at = f.at; leads = put_leads (place ps j).1 f.at f.leads; is = put_there f.at apart ∙ f.is }

  pub put_filed_here : Leads ps p.1 i → IsFiled (set ps i p) p
  put_filed_here l = record { at = i; leads = put_leads p.1 i l; is = put_here }

  pub put_count : count_by is_taken (set ps i p) ≡ count_by is_taken ps + 1
  put_count =
      let sums = sum_by-set (λ (q : ℕ × ℕ). cond {A = ℕ} (is_taken q) 1 0) ps i p (4294967295, 0) within in
      let none : cond {A = ℕ} (is_taken (place ps i)) 1 0 ≡ 0 = ap (λ (b : Bool). cond {A = ℕ} (not b) 1 0) (eq-eqb (place ps i).0 4294967295 free) in
      let one : cond {A = ℕ} (is_taken p) 1 0 ≡ 1 = ap (λ (b : Bool). cond {A = ℕ} (not b) 1 0) (ne_eqb p.0 4294967295 taken) in
      omega arith

  -- a taken place is the new one or was taken before
  pub cases_put : (j : ℕ) → IsTaken (set ps i p) j → (j ≡ i) ⊎ ((j ≢ i) × IsTaken ps j)
  cases_put j t = elim (cases_eq j i) [
    | inl e ↦ inl e
    | inr ne ↦ inr (ne, λ e. t (ap (λ (q : ℕ × ℕ). q.0) (put_there j ne) ∙ e))
  ]
