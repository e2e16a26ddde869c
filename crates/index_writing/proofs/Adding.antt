-- What one pair more does to a map of keys with numbers.
use Rattle.std.proofs.Common.{◌≡◌, ℕ, ◌+◌, ◌-◌, ◌<◌, Bool, true, false, cond, ◌||◌, List, [], ◌∷◌, ◌++◌, length, Option, Some, None, refl, sym, ap, subst, ◌∙◌, arith, BTreeMap, All, eqb, inl, inr, take, get_or}
use Rattle.std.specs.Prelude.{unwrap_or, slice_get, bytes_eq}
use Rattle.std.specs.Map.{update}
use Rattle.std.specs.Ordering.{nat_cmp, eq_by_cmp, is_eq}
use Rattle.std.specs.declared.cmp.Ordering.{Ordering}
use Rattle.std.specs.declared.cmp.Ordering.TheVariants.{Less, Equal, Greater}
use Rattle.std.specs.Cmp.{Equal-is}
use Rattle.std.specs.Cmp.Lexicographic.{slice_cmp, nat_list_eq_equiv, bytes_decides}
use Rattle.std.proofs.lemmas.Bool.{eq-eqb, ne_eqb}
use Rattle.std.proofs.lemmas.List.{get_or_push, length_push, take_more}
use Rattle.std.proofs.lemmas.List.Elements.{All-get_or}
use Rattle.std.proofs.lemmas.List.Folds.{list_any-append}
use Rattle.std.proofs.lemmas.Option.{slice_get_cases, slice_get-get_or}
use Rattle.std.proofs.lemmas.Map.{update_same, update_other}
use Rattle.std.proofs.lemmas.Map.Text.{is_eq-slice_cmp}
use Rattle.std.proofs.lemmas.Map.Lookups.{exact_bytes}
use Rattle.owned_bytes.specs.Keys.{Key, is_same, is_equal}
use Rattle.documents.specs.declared.documents.Pair.{Pair}
use Rattle.documents.specs.declared.documents.Doc.{Doc}
use Rattle.documents.specs.Postings.{key_of, numbers_of}
use Rattle.index_writing.specs.Gathering.{listed, with_number, numbers_at, Tells}
use Rattle.index_writing.proofs.Numbering.{has, numbers-with, numbers-without, numbers-below}

equal-eq : (o : Ordering) → is_equal o ≡ is_eq o
equal-eq Less = refl
equal-eq Equal = refl
equal-eq Greater = refl

pub same-bytes : (a b : Key) → is_same a b ≡ bytes_eq a b
same-bytes a b = equal-eq (slice_cmp nat_cmp a b) ∙ is_eq-slice_cmp a b

-- the test of a map is that of keys, the other way round
pub same-by : (key q : Key) → is_same q key ≡ eq_by_cmp (slice_cmp nat_cmp) key q
same-by key q = same-bytes q key ∙ nat_list_eq_equiv.symm q key ∙ sym (is_eq-slice_cmp key q)

or-true : (b : Bool) → (b || true) ≡ true
or-true true = refl
or-true false = refl

bytes-same : (a : Key) → bytes_eq a a ≡ true
bytes-same a = (bytes_decides a a).1 refl

or-none : (b : Bool) → (b || false) ≡ b
or-none true = refl
or-none false = refl

has-push : (key : Key) (pairs : List Pair) (pair : Pair) → has key (pairs ++ pair ∷ []) ≡ (has key pairs || is_same key (key_of pair))
has-push key pairs pair = list_any-append (λ p. is_same key (key_of p)) pairs (pair ∷ []) ∙ ap (λ b. has key pairs || b) (or-none (is_same key (key_of pair)))

listed-some : (ns : List ℕ) (n : ℕ) → listed (ns ++ n ∷ []) ≡ Some (ns ++ n ∷ [])
listed-some [] n = refl
listed-some (m ∷ ns) n = refl

listed-back : (ns : List ℕ) → unwrap_or (listed ns) [] ≡ ns
listed-back [] = refl
listed-back (n ∷ ns) = refl

if_last : ℕ → List ℕ → Option ℕ → List ℕ
if_last n ns o = cond (elim o [ Some last ↦ eqb last n | None ↦ false ]) ns (ns ++ n ∷ [])

at-end : (ns : List ℕ) (n : ℕ) → slice_get (ns ++ n ∷ []) (length (ns ++ n ∷ []) - 1) ≡ Some n
at-end ns n =
    let long : length (ns ++ n ∷ []) ≡ length ns + 1 = length_push ns n in
    let here : length ns ≡ length (ns ++ n ∷ []) - 1 = omega (arith, long) in
    slice_get-get_or (ns ++ n ∷ []) (length (ns ++ n ∷ []) - 1) n (omega (arith, long)) ∙ ap Some (get_or_push ns n n (length (ns ++ n ∷ []) - 1) here)

again : (ns : List ℕ) (n : ℕ) → with_number n (ns ++ n ∷ []) ≡ ns ++ n ∷ []
unfolding if_last
again ns n = ap (λ o. if_last n (ns ++ n ∷ []) o) (at-end ns n) ∙ ap (λ b. cond b (ns ++ n ∷ []) ((ns ++ n ∷ []) ++ n ∷ [])) (eq-eqb n n refl)

once : (ns : List ℕ) (n : ℕ) → All (λ m. m < n) ns → with_number n ns ≡ ns ++ n ∷ []
unfolding if_last
once ns n below = elim (slice_get_cases ns (length ns - 1)).1 [
  | inl found ↦
      let less : found.0 < n = subst (λ m. m < n) found.3 (All-get_or (λ m. m < n) ns (length ns - 1) found.0 found.1 below) in
      ap (if_last n ns) found.2 ∙ ap (λ b. cond b ns (ns ++ n ∷ [])) (ne_eqb found.0 n (λ same. absurd (omega (arith, same, less))))
  | inr past ↦ ap (if_last n ns) past.1
]

module _ (old new : BTreeMap Key (List ℕ)) (docs : List Doc) (pairs : List Pair) (pair : Pair) where
  abbrev before : List Doc
  before = docs ++ record { pairs = pairs } ∷ []

  abbrev after : List Doc
  after = docs ++ record { pairs = pairs ++ pair ∷ [] } ∷ []

  added-number : (key : Key) → with_number (length docs) (numbers_of key before) ≡ numbers_of key docs ++ length docs ∷ []
  added-number key =
      let by : (b : Bool) → has key pairs ≡ b → with_number (length docs) (numbers_of key before) ≡ numbers_of key docs ++ length docs ∷ [] =
      λ b. elim b as (λ b. has key pairs ≡ b → with_number (length docs) (numbers_of key before) ≡ numbers_of key docs ++ length docs ∷ []) [
        | true ↦ λ e. ap (with_number (length docs)) (numbers-with key docs (record { pairs = pairs }) e) ∙ again (numbers_of key docs) (length docs)
        | false ↦ λ e. ap (with_number (length docs)) (numbers-without key docs (record { pairs = pairs }) e) ∙ once (numbers_of key docs) (length docs) (numbers-below key docs)
      ] in
      by (has key pairs) refl

  apart : (q : Key) → is_same q (key_of pair) ≡ false → numbers_of q after ≡ numbers_of q before
  apart q other =
      let same : has q (pairs ++ pair ∷ []) ≡ has q pairs = has-push q pairs pair ∙ ap (λ b. has q pairs || b) other ∙ or-none (has q pairs) in
      let by : (b : Bool) → has q pairs ≡ b → numbers_of q after ≡ numbers_of q before =
      λ b. elim b as (λ b. has q pairs ≡ b → numbers_of q after ≡ numbers_of q before) [
        | true ↦ λ e. numbers-with q docs (record { pairs = pairs ++ pair ∷ [] }) (same ∙ e) ∙ sym (numbers-with q docs (record { pairs = pairs }) e)
        | false ↦ λ e. numbers-without q docs (record { pairs = pairs ++ pair ∷ [] }) (same ∙ e) ∙ sym (numbers-without q docs (record { pairs = pairs }) e)
      ] in
      by (has q pairs) refl

  here : Tells old before → Some (with_number (length docs) (unwrap_or (numbers_at old (key_of pair)) [])) ≡ listed (numbers_of (key_of pair) after)
  here tells =
      let key = key_of pair in
      let back : unwrap_or (numbers_at old key) [] ≡ numbers_of key before = ap (λ o. unwrap_or o []) (tells key) ∙ listed-back (numbers_of key before) in
      let added : with_number (length docs) (numbers_of key before) ≡ numbers_of key docs ++ length docs ∷ [] = added-number key in
      let held : has key (pairs ++ pair ∷ []) ≡ true = has-push key pairs pair ∙ ap (λ b. has key pairs || b) (same-bytes key key ∙ bytes-same key) ∙ or-true (has key pairs) in
      ap (λ ns. Some (with_number (length docs) ns)) back ∙ ap Some added ∙ sym (listed-some (numbers_of key docs) (length docs))
      ∙ ap listed (sym (numbers-with key docs (record { pairs = pairs ++ pair ∷ [] }) held))

  pub add-pair : Tells old before
      → ((q : List ℕ) → numbers_at new q ≡ update (eq_by_cmp (slice_cmp nat_cmp)) (numbers_at old) (key_of pair) (Some (with_number (length docs) (unwrap_or (numbers_at old (key_of pair)) []))) q)
      → Tells new after
  add-pair tells updates q =
      let key = key_of pair in
      let told = Some (with_number (length docs) (unwrap_or (numbers_at old key) [])) in
      let by : (b : Bool) → eq_by_cmp (slice_cmp nat_cmp) key q ≡ b → numbers_at new q ≡ listed (numbers_of q after) =
      λ b. elim b as (λ b. eq_by_cmp (slice_cmp nat_cmp) key q ≡ b → numbers_at new q ≡ listed (numbers_of q after)) [
        | true ↦ λ e.
            let same : key ≡ q = exact_bytes key q ((Equal-is (slice_cmp nat_cmp key q)).0 e) in
            updates q ∙ update_same (eq_by_cmp (slice_cmp nat_cmp)) (numbers_at old) key told q e ∙ here tells ∙ ap (λ k. listed (numbers_of k after)) same
        | false ↦ λ e.
            updates q ∙ update_other (eq_by_cmp (slice_cmp nat_cmp)) (numbers_at old) key told q e ∙ tells q ∙ ap listed (sym (apart q (same-by key q ∙ e)))
      ] in
      by (eq_by_cmp (slice_cmp nat_cmp) key q) refl

-- a document without pairs
pub tells-none : (gathered : BTreeMap Key (List ℕ)) (docs : List Doc) → Tells gathered docs → Tells gathered (docs ++ record { pairs = [] } ∷ [])
tells-none gathered docs tells q = tells q ∙ ap listed (sym (numbers-without q docs (record { pairs = [] }) refl))

-- the same, in a loop over the pairs of a document
pub add-pair-at : (old new : BTreeMap Key (List ℕ)) (docs : List Doc) (pairs : List Pair) (i : ℕ) (pair : Pair) (key : Key) (number : ℕ)
    → i < length pairs → pair ≡ get_or pairs i pair → key ≡ key_of pair → length docs ≡ number
    → Tells old (docs ++ record { pairs = take i pairs } ∷ [])
    → ((q : List ℕ) → numbers_at new q ≡ update (eq_by_cmp (slice_cmp nat_cmp)) (numbers_at old) key (Some (with_number number (unwrap_or (numbers_at old key) []))) q)
    → Tells new (docs ++ record { pairs = take (i + 1) pairs } ∷ [])
add-pair-at old new docs pairs i pair key number within at is long tells updates =
    let more : take (i + 1) pairs ≡ take i pairs ++ pair ∷ [] = take_more pairs i pair within ∙ ap (λ p. take i pairs ++ p ∷ []) (sym at) in
    let same : (q : List ℕ) → numbers_at new q ≡ update (eq_by_cmp (slice_cmp nat_cmp)) (numbers_at old) (key_of pair) (Some (with_number (length docs) (unwrap_or (numbers_at old (key_of pair)) []))) q =
    subst (λ n. (q : List ℕ) → numbers_at new q ≡ update (eq_by_cmp (slice_cmp nat_cmp)) (numbers_at old) (key_of pair) (Some (with_number n (unwrap_or (numbers_at old (key_of pair)) []))) q) (sym long)
    (subst (λ k. (q : List ℕ) → numbers_at new q ≡ update (eq_by_cmp (slice_cmp nat_cmp)) (numbers_at old) k (Some (with_number number (unwrap_or (numbers_at old k) []))) q) is updates) in
    subst (λ ps. Tells new (docs ++ record { pairs = ps } ∷ [])) (sym more) (add-pair old new docs (take i pairs) pair tells same)
