-- A map that tells documents has the entries that they gather to.
use Rattle.std.proofs.Common.{◌≡◌, ℕ, ◌+◌, Bool, true, false, cond, ◌||◌, List, [], ◌∷◌, Some, None, refl, sym, ap, subst, ◌∙◌, BTreeMap}
use Rattle.std.specs.Prelude.{map, filter, T}
use Rattle.std.specs.List.{enumerate_from, list_any, flat_map, AllByRecursion}
use Rattle.std.specs.List.Sorted.{IsStrictlySortedBy}
use Rattle.std.specs.Map.{lookup, keys_of}
use Rattle.std.specs.BTreeMap.{IsOrdered, is_at}
use Rattle.std.specs.FinMap.Entries.{below_all, is_sorted, find, same_entries}
use Rattle.std.specs.Ordering.{nat_cmp, is_eq, is_lt, ordering_reverse}
use Rattle.std.proofs.lemmas.Bool.{and_from}
use Rattle.std.specs.Cmp.{IsTotalOrder, Equal-is}
use Rattle.std.specs.Cmp.Rules.{comparing}
use Rattle.std.specs.Cmp.Lexicographic.{slice_cmp}
use Rattle.std.specs.declared.cmp.Ordering.{Ordering}
use Rattle.std.specs.declared.cmp.Ordering.TheVariants.{Less, Equal, Greater}
use Rattle.std.proofs.Common.{rules}
use Rattle.std.proofs.lemmas.List.Folds.{list_any-append}
use Rattle.std.proofs.lemmas.Map.Lookups.{exact_bytes}
use Rattle.owned_bytes.specs.Keys.{Key, is_same, is_below, is_less, is_equal}
unfoldable use Rattle.owned_bytes.specs.Keys.{with_key, key_set}
use Rattle.documents.specs.declared.documents.Pair.{Pair}
use Rattle.documents.specs.declared.documents.Doc.{Doc}
use Rattle.documents.specs.Postings as postings
unfoldable use Rattle.documents.specs.Postings.{gather}
use Rattle.index_writing.specs.Gathering.{listed, Tells}
use Rattle.index_writing.proofs.Numbering.{has}

abbrev pub cmp : Key → Key → Ordering
cmp = slice_cmp nat_cmp

total : IsTotalOrder cmp
total = search (comparing, rules)

-- ---- the order of a key set

below-less : (a b : Key) → is_below a b ≡ true → cmp a b ≡ Less
below-less a b e = go (cmp a b) e
  where
    go : (o : Ordering) → is_less o ≡ true → o ≡ Less
    go Less e = refl
    go Equal e = absurd cc
    go Greater e = absurd cc

-- neither below nor the same: the other way round
above-less : (a b : Key) → is_below a b ≡ false → is_same a b ≡ false → cmp b a ≡ Less
above-less a b below same = total.antisymm b a ∙ ap ordering_reverse (go (cmp a b) below same)
  where
    go : (o : Ordering) → is_less o ≡ false → is_equal o ≡ false → o ≡ Greater
    go Less e s = absurd cc
    go Equal e s = absurd cc
    go Greater e s = refl

pub all-with : (P : Key → Type 0) (key : Key) (keys : List Key) → P key → AllByRecursion P keys → AllByRecursion P (with_key key keys)
unfolding with_key
all-with P key [] here others = (here, tt)
all-with P key (other ∷ keys) here others =
    elim (is_below key other) as (λ b. AllByRecursion P (cond b (key ∷ other ∷ keys) (cond (is_same key other) (other ∷ keys) (other ∷ with_key key keys)))) [
      | true ↦ (here, others)
      | false ↦ elim (is_same key other) as (λ b. AllByRecursion P (cond b (other ∷ keys) (other ∷ with_key key keys))) [
        | true ↦ others
        | false ↦ (others.0, all-with P key keys here others.1)
      ]
    ]

further : (a b : Key) (keys : List Key) → cmp a b ≡ Less → AllByRecursion (λ y. cmp b y ≡ Less) keys → AllByRecursion (λ y. cmp a y ≡ Less) keys
further a b [] less all = tt
further a b (key ∷ keys) less all = (total.trans a b key less all.0, further a b keys less all.1)

with_key-sorted : (key : Key) (keys : List Key) → IsStrictlySortedBy cmp keys → IsStrictlySortedBy cmp (with_key key keys)
unfolding with_key IsStrictlySortedBy
with_key-sorted key [] sorted = (tt, tt)
with_key-sorted key (other ∷ keys) sorted =
    let Sorted : List Key → Type 0 = IsStrictlySortedBy cmp in
    let by : (b c : Bool) → is_below key other ≡ b → is_same key other ≡ c → Sorted (cond b (key ∷ other ∷ keys) (cond c (other ∷ keys) (other ∷ with_key key keys))) =
    λ b. elim b as (λ b. (c : Bool) → is_below key other ≡ b → is_same key other ≡ c → Sorted (cond b (key ∷ other ∷ keys) (cond c (other ∷ keys) (other ∷ with_key key keys)))) [
      | true ↦ λ c below same. ((below-less key other below, further key other keys (below-less key other below) sorted.0), sorted)
      | false ↦ λ c. elim c as (λ c. is_below key other ≡ false → is_same key other ≡ c → Sorted (cond c (other ∷ keys) (other ∷ with_key key keys))) [
        | true ↦ λ below same. sorted
        | false ↦ λ below same. (all-with (λ y. cmp other y ≡ Less) key keys (above-less key other below same) sorted.0, with_key-sorted key keys sorted.1)
      ]
    ] in
    by (is_below key other) (is_same key other) refl refl

pub key_set-sorted : (keys : List Key) → IsStrictlySortedBy cmp (key_set keys)
unfolding key_set IsStrictlySortedBy
key_set-sorted [] = tt
key_set-sorted (key ∷ keys) = with_key-sorted key (key_set keys) (key_set-sorted keys)

-- ---- the keys of a key set

same-is : (a b : Key) → is_same a b ≡ true → a ≡ b
same-is a b e = exact_bytes a b (go (cmp a b) e)
  where
    go : (o : Ordering) → is_equal o ≡ true → o ≡ Equal
    go Less e = absurd cc
    go Equal e = refl
    go Greater e = absurd cc

or-same : (a b : Bool) → (a || b) ≡ (a || (a || b))
or-same true b = refl
or-same false b = refl

or-swap : (a b c : Bool) → (a || (b || c)) ≡ (b || (a || c))
or-swap true true c = refl
or-swap true false c = refl
or-swap false b c = refl

any-with : (test : Key → Bool) (key : Key) (keys : List Key) → list_any test (with_key key keys) ≡ (test key || list_any test keys)
unfolding with_key
any-with test key [] = refl
any-with test key (other ∷ keys) =
    let Goal : List Key → Type 0 = λ ks. list_any test ks ≡ (test key || (test other || list_any test keys)) in
    let by : (b c : Bool) → is_same key other ≡ c → Goal (cond b (key ∷ other ∷ keys) (cond c (other ∷ keys) (other ∷ with_key key keys))) =
    λ b. elim b as (λ b. (c : Bool) → is_same key other ≡ c → Goal (cond b (key ∷ other ∷ keys) (cond c (other ∷ keys) (other ∷ with_key key keys)))) [
      | true ↦ λ c same. refl
      | false ↦ λ c. elim c as (λ c. is_same key other ≡ c → Goal (cond c (other ∷ keys) (other ∷ with_key key keys))) [
        | true ↦ λ same. or-same (test other) (list_any test keys) ∙ ap (λ k. test k || (test other || list_any test keys)) (sym (same-is key other same))
        | false ↦ λ same. ap (λ b. test other || b) (any-with test key keys) ∙ or-swap (test other) (test key) (list_any test keys)
      ]
    ] in
    by (is_below key other) (is_same key other) refl

any-set : (test : Key → Bool) (keys : List Key) → list_any test (key_set keys) ≡ list_any test keys
unfolding key_set
any-set test [] = refl
any-set test (key ∷ keys) = any-with test key (key_set keys) ∙ ap (λ b. test key || b) (any-set test keys)

-- ---- the entries

abbrev pub paired : {V : Type 0} → (Key → V) → List Key → List (Key × V)
paired f keys = map (λ key. (key, f key)) keys

keys-paired : {V : Type 0} (f : Key → V) (keys : List Key) → keys_of (paired f keys) ≡ keys
keys-paired f [] = refl
keys-paired f (key ∷ keys) = ap (λ ks. key ∷ ks) (keys-paired f keys)

lookup-paired : {V : Type 0} (f : Key → V) (q : Key) (keys : List Key) → lookup (is_at (cmp q)) (paired f keys) ≡ cond (list_any (is_at (cmp q)) keys) (Some (f q)) None
lookup-paired f q [] = refl
lookup-paired f q (key ∷ keys) =
    let rest = lookup-paired f q keys in
    let by : (b : Bool) → is_at (cmp q) key ≡ b → cond b (Some (f key)) (lookup (is_at (cmp q)) (paired f keys)) ≡ cond (b || list_any (is_at (cmp q)) keys) (Some (f q)) None =
    λ b. elim b as (λ b. is_at (cmp q) key ≡ b → cond b (Some (f key)) (lookup (is_at (cmp q)) (paired f keys)) ≡ cond (b || list_any (is_at (cmp q)) keys) (Some (f q)) None) [
      | true ↦ λ e. ap (λ k. Some (f k)) (sym (exact_bytes q key ((Equal-is (cmp q key)).0 e)))
      | false ↦ λ e. rest
    ] in
    by (is_at (cmp q) key) refl

-- ---- the numbers

same-at : (q key : Key) → is_same q key ≡ is_at (cmp q) key
same-at q key = go (cmp q key)
  where
    go : (o : Ordering) → is_equal o ≡ is_eq o
    go Less = refl
    go Equal = refl
    go Greater = refl

any-pairs : (q : Key) (pairs : List Pair) → list_any (is_at (cmp q)) (map postings.key_of pairs) ≡ has q pairs
any-pairs q [] = refl
any-pairs q (pair ∷ pairs) =
    ap (λ b. b || list_any (is_at (cmp q)) (map postings.key_of pairs)) (sym (same-at q (postings.key_of pair)))
    ∙ ap (λ b. is_same q (postings.key_of pair) || b) (any-pairs q pairs)

any-docs : (q : Key) (docs : List Doc) → list_any (is_at (cmp q)) (flat_map (λ (doc : Doc). map postings.key_of doc.pairs) docs) ≡ list_any (λ (doc : Doc). has q doc.pairs) docs
any-docs q [] = refl
any-docs q (doc ∷ docs) =
    list_any-append (is_at (cmp q)) (map postings.key_of doc.pairs) (flat_map (λ (doc : Doc). map postings.key_of doc.pairs) docs)
    ∙ ap (λ b. b || list_any (is_at (cmp q)) (flat_map (λ (doc : Doc). map postings.key_of doc.pairs) docs)) (any-pairs q doc.pairs)
    ∙ ap (λ b. has q doc.pairs || b) (any-docs q docs)

pub listed-chosen : (test : Doc → Bool) (start : ℕ) (docs : List Doc) → listed (map (λ (numbered : ℕ × Doc). numbered.0) (filter (λ (numbered : ℕ × Doc). test numbered.1) (enumerate_from start docs)))
    ≡ cond (list_any test docs) (Some (map (λ (numbered : ℕ × Doc). numbered.0) (filter (λ (numbered : ℕ × Doc). test numbered.1) (enumerate_from start docs)))) None
listed-chosen test start [] = refl
listed-chosen test start (doc ∷ docs) =
    let others = filter (λ (numbered : ℕ × Doc). test numbered.1) (enumerate_from (start + 1) docs) in
    elim (test doc) as (λ b. listed (map (λ (numbered : ℕ × Doc). numbered.0) (cond b ((start, doc) ∷ others) others)) ≡ cond (b || list_any test docs) (Some (map (λ (numbered : ℕ × Doc). numbered.0) (cond b ((start, doc) ∷ others) others))) None) [
      | true ↦ refl
      | false ↦ listed-chosen test (start + 1) docs
    ]

-- ---- lists of entries that look up alike

below-all : {V : Type 0} (key : Key) (es : List (Key × V)) → AllByRecursion (λ y. cmp key y ≡ Less) (keys_of es) → below_all cmp key es ≡ true
below-all key [] all = refl
below-all key (e ∷ es) all = and_from (is_lt (cmp key e.0)) (below_all cmp key es) (ap is_lt all.0) (below-all key es all.1)

sorted-test : {V : Type 0} (es : List (Key × V)) → IsStrictlySortedBy cmp (keys_of es) → is_sorted cmp es ≡ true
unfolding IsStrictlySortedBy
sorted-test [] sorted = refl
sorted-test (e ∷ es) sorted = and_from (below_all cmp e.0 es) (is_sorted cmp es) (below-all e.0 es sorted.0) (sorted-test es sorted.1)

found-same : {V : Type 0} (q : Key) (es : List (Key × V)) → find cmp q es ≡ lookup (is_at (cmp q)) es
found-same q [] = refl
found-same q (e ∷ es) = ap (cond (is_at (cmp q) e.0) (Some e.1)) (found-same q es)

same-by_lookup : {V : Type 0} (es fs : List (Key × V)) → IsStrictlySortedBy cmp (keys_of es) → IsStrictlySortedBy cmp (keys_of fs)
    → ((q : Key) → lookup (is_at (cmp q)) es ≡ lookup (is_at (cmp q)) fs) → es ≡ fs
same-by_lookup es fs s t same =
    same_entries cmp total exact_bytes es fs (subst T (sym (sorted-test es s)) tt) (subst T (sym (sorted-test fs t)) tt) (λ q. found-same q es ∙ same q ∙ sym (found-same q fs))

pub entries-told : (gathered : BTreeMap Key (List ℕ)) (docs : List Doc) → IsOrdered cmp gathered → Tells gathered docs → gathered.entries ≡ (gather docs).entries
unfolding gather
entries-told gathered docs ordered tells =
    let keys = key_set (flat_map (λ (doc : Doc). map postings.key_of doc.pairs) docs) in
    let numbers : Key → List ℕ = λ key. postings.numbers_of key docs in
    let rising : IsStrictlySortedBy cmp (keys_of (paired numbers keys)) = subst (IsStrictlySortedBy cmp) (sym (keys-paired numbers keys)) (key_set-sorted (flat_map (λ (doc : Doc). map postings.key_of doc.pairs) docs)) in
    same-by_lookup gathered.entries (paired numbers keys) ordered rising
    (λ q. tells q ∙ listed-chosen (λ doc. has q doc.pairs) 0 docs
    ∙ ap (λ b. cond b (Some (numbers q)) None) (sym (any-set (is_at (cmp q)) (flat_map (λ (doc : Doc). map postings.key_of doc.pairs) docs) ∙ any-docs q docs))
    ∙ sym (lookup-paired numbers q keys))
