-- What holds of the entries that valid documents gather to.
use Rattle.std.proofs.Common.{◌≡◌, ℕ, zero, suc, ◌+◌, ◌*◌, ◌^◌, ◌<◌, ◌≤◌, Bool, true, false, not, ◌||◌, List, [], ◌∷◌, ◌++◌, length, Some, None, All, refl, sym, ap, subst, ◌∙◌, arith, eqb, rules, length-append}
use Rattle.std.specs.Prelude.{map, filter, sum_by, nat_lt, cond}
use Rattle.std.proofs.lemmas.List.{length-map}
use Rattle.std.specs.List.{enumerate_from, flat_map, list_all, list_any, AllByRecursion}
use Rattle.std.specs.List.Sorted.{IsStrictlySortedBy}
use Rattle.std.proofs.lemmas.Bool.{and_from, lt-ltb, le-leb, ne_eqb, eq-eqb}
use Rattle.std.proofs.lemmas.List.Elements.{All-head, All-tail, All-append}
use Rattle.std.proofs.lemmas.List.Sums.{sum_by-append, sum_by-cons, list_all-from_AllPass}
use Rattle.owned_bytes.specs.Front.{◌>>=◌}
use Rattle.owned_bytes.specs.Keys.{Key, is_same, is_below, is_less}
unfoldable use Rattle.owned_bytes.specs.Keys.{is_rising, with_key, key_set}
use Rattle.sstable_tables.specs.Laws.{keys_size}
use Rattle.documents.specs.declared.documents.Pair.{Pair}
use Rattle.documents.specs.declared.documents.Doc.{Doc}
use Rattle.documents.specs.Documents.{IsField, IsValidPair, AreValidDocuments, is_field, is_short, pair_size, documents_size}
use Rattle.documents.specs.Postings as postings
unfoldable use Rattle.documents.specs.Postings.{gather}
use Rattle.index_file.specs.IndexFile.{is_pair, is_key, is_posting}
unfoldable use Rattle.index_file.specs.IndexFile.{parted, adjoin}
use Rattle.index_writing.specs.Gathering.{listed}
use Rattle.index_writing.specs.Emitting.{numbers_of_all}
unfoldable use Rattle.index_writing.specs.Emitting.{ranged}
use Rattle.index_writing.proofs.Numbering.{has, numbers-below, numbers-rise}
use Rattle.index_writing.proofs.Adding.{same-bytes}
use Rattle.index_writing.proofs.Gathered.{cmp, paired, all-with, key_set-sorted, listed-chosen}

-- the keys of all pairs of the documents
abbrev pub keys_in : List Doc → List Key
keys_in docs = flat_map (λ (doc : Doc). map postings.key_of doc.pairs) docs

-- ---- what holds of each key of a list holds of its key set

all-set : (P : Key → Type 0) (keys : List Key) → AllByRecursion P keys → AllByRecursion P (key_set keys)
unfolding key_set
all-set P [] all = tt
all-set P (key ∷ keys) all = all-with P key (key_set keys) all.0 (all-set P keys all.1)

all-append : (P : Key → Type 0) (xs ys : List Key) → AllByRecursion P xs → AllByRecursion P ys → AllByRecursion P (xs ++ ys)
all-append P [] ys a b = b
all-append P (x ∷ xs) ys a b = (a.0, all-append P xs ys a.1 b)

all-weaker : (P Q : Key → Type 0) → ((key : Key) → P key → Q key) → (keys : List Key) → AllByRecursion P keys → AllByRecursion Q keys
all-weaker P Q to [] all = tt
all-weaker P Q to (key ∷ keys) all = (to key all.0, all-weaker P Q to keys all.1)

-- ---- keys of valid pairs

field-test : (field : List ℕ) → IsField field → is_field field ≡ true
field-test field is =
    and_from (not (eqb (length field) 0)) (list_all (λ byte. nat_lt 1 byte) field)
    (ap not (ne_eqb (length field) 0 (λ none. let some = is.not_empty in absurd (omega (arith, some, none)))))
    (list_all-from_AllPass (λ byte. nat_lt 1 byte) field (λ k d within. lt-ltb 1 _ (is.no_separator k d within)))

parted-key : (field term : List ℕ) → All (λ byte. 1 < byte) field → parted (field ++ 0 ∷ term) ≡ Some (record { field = field; term = term })
unfolding parted
parted-key [] term above = refl
parted-key (zero ∷ field) term above = let first : 1 < 0 = All-head (λ byte. 1 < byte) 0 field above in absurd (omega (arith, first))
parted-key (suc byte ∷ field) term above =
    ap (λ o. o >>= (λ (pair : Pair). Some (record { field = suc byte ∷ pair.field; term = pair.term }))) (parted-key field term (All-tail (λ byte. 1 < byte) (suc byte) field above))

key-test : (pair : Pair) → IsValidPair pair → is_key (postings.key_of pair) ≡ true
key-test pair valid =
    ap (λ o. elim o [ Some p ↦ is_pair p | None ↦ false ]) (parted-key pair.field pair.term valid.field.no_separator)
    ∙ and_from (is_field pair.field) (is_short pair) (field-test pair.field valid.field) (le-leb _ _ valid.short)

keys-pairs : (pairs : List Pair) → All IsValidPair pairs → AllByRecursion (λ key. is_key key ≡ true) (map postings.key_of pairs)
keys-pairs [] valid = tt
keys-pairs (pair ∷ pairs) valid = (key-test pair (All-head IsValidPair pair pairs valid), keys-pairs pairs (All-tail IsValidPair pair pairs valid))

abbrev IsValid : Doc → Type 0
IsValid doc = All IsValidPair doc.pairs

keys-docs : (docs : List Doc) → All IsValid docs → AllByRecursion (λ key. is_key key ≡ true) (keys_in docs)
keys-docs [] valid = tt
keys-docs (doc ∷ docs) valid =
    all-append (λ key. is_key key ≡ true) (map postings.key_of doc.pairs) (keys_in docs)
    (keys-pairs doc.pairs (All-head IsValid doc docs valid)) (keys-docs docs (All-tail IsValid doc docs valid))

-- ---- keys that documents have

or-left : (a b : Bool) → a ≡ true → (a || b) ≡ true
or-left true b e = refl
or-left false b e = absurd cc

or-right : (a b : Bool) → b ≡ true → (a || b) ≡ true
or-right true b e = refl
or-right false b e = e

same-self : (key : Key) → is_same key key ≡ true
same-self key = same-bytes key key ∙ search rules

had-pairs : (pairs : List Pair) → AllByRecursion (λ key. has key pairs ≡ true) (map postings.key_of pairs)
had-pairs [] = tt
had-pairs (pair ∷ pairs) = (
  or-left (is_same (postings.key_of pair) (postings.key_of pair)) (has (postings.key_of pair) pairs) (same-self (postings.key_of pair)),
  all-weaker (λ key. has key pairs ≡ true) (λ key. has key (pair ∷ pairs) ≡ true) (λ key e. or-right (is_same key (postings.key_of pair)) (has key pairs) e) (map postings.key_of pairs) (had-pairs pairs),
)

abbrev had : Key → List Doc → Bool
had key docs = list_any (λ (doc : Doc). has key doc.pairs) docs

had-docs : (docs : List Doc) → AllByRecursion (λ key. had key docs ≡ true) (keys_in docs)
had-docs [] = tt
had-docs (doc ∷ docs) =
    all-append (λ key. had key (doc ∷ docs) ≡ true) (map postings.key_of doc.pairs) (keys_in docs)
    (all-weaker (λ key. has key doc.pairs ≡ true) (λ key. had key (doc ∷ docs) ≡ true) (λ key e. or-left (has key doc.pairs) (had key docs) e) (map postings.key_of doc.pairs) (had-pairs doc.pairs))
    (all-weaker (λ key. had key docs ≡ true) (λ key. had key (doc ∷ docs) ≡ true) (λ key e. or-right (has key doc.pairs) (had key docs) e) (keys_in docs) (had-docs docs))

-- ---- the entries

rising-sorted : {V : Type 0} (f : Key → V) (keys : List Key) → IsStrictlySortedBy cmp keys → is_rising (map (λ entry. entry.0) (paired f keys)) ≡ true
unfolding is_rising IsStrictlySortedBy
rising-sorted f [] sorted = refl
rising-sorted f (key ∷ []) sorted = refl
rising-sorted f (key ∷ next ∷ keys) sorted =
    and_from (is_below key next) (is_rising (next ∷ map (λ (entry : Key × _). entry.0) (paired f keys))) (ap is_less sorted.0.0) (rising-sorted f (next ∷ keys) sorted.1)

some-listed : (ns : List ℕ) → listed ns ≡ Some ns → 0 < length ns
some-listed [] e = absurd cc
some-listed (n ∷ ns) e = omega arith

numbers-some : (key : Key) (docs : List Doc) → had key docs ≡ true → 0 < length (postings.numbers_of key docs)
numbers-some key docs is =
    some-listed (postings.numbers_of key docs) (listed-chosen (λ doc. has key doc.pairs) 0 docs ∙ ap (λ b. cond b (Some (postings.numbers_of key docs)) None) is)

posting-test : (docs : List Doc) (key : Key) → is_key key ≡ true → is_posting (length docs) (key, postings.numbers_of key docs) ≡ true
posting-test docs key is =
    and_from (is_key key) _ is (and_from _ _ (numbers-rise key docs) (list_all-from_AllPass (λ n. nat_lt n (length docs)) (postings.numbers_of key docs) (λ k d within. lt-ltb _ _ (numbers-below key docs k d within))))

all-paired : {V : Type 0} (test : Key × V → Bool) (f : Key → V) (keys : List Key) → AllByRecursion (λ key. test (key, f key) ≡ true) keys → list_all test (paired f keys) ≡ true
all-paired test f [] all = refl
all-paired test f (key ∷ keys) all = and_from (test (key, f key)) (list_all test (paired f keys)) all.0 (all-paired test f keys all.1)

pub adjoin-ranged : (start end : ℕ) (ps : List (Key × List ℕ)) → AllByRecursion (λ p. 0 < length p.1) ps → start + length (numbers_of_all ps) ≡ end
    → adjoin start end (map (λ entry. entry.1) (ranged start ps)) ≡ true
unfolding adjoin ranged
adjoin-ranged start end [] some is = eq-eqb start end (omega (arith, is))
adjoin-ranged start end (p ∷ ps) some is =
    let first : 0 < length p.1 = some.0 in
    let rest = adjoin-ranged (start + length p.1) end ps some.1 (omega (arith, is, length-append p.1 (numbers_of_all ps))) in
    and_from (eqb start start) _ (eq-eqb start start refl) (and_from (nat_lt start (start + length p.1)) _ (lt-ltb start (start + length p.1) (omega (arith, first))) rest)

fit-paired : (bound : ℕ) (f : Key → List ℕ) (keys : List Key) → ((key : Key) → All (λ n. n < bound) (f key)) → All (λ n. n < bound) (numbers_of_all (paired f keys))
fit-paired bound f [] each = λ k d within. absurd (omega (arith, within))
fit-paired bound f (key ∷ keys) each = All-append (λ n. n < bound) (f key) (numbers_of_all (paired f keys)) (each key) (fit-paired bound f keys each)

some-paired : (f : Key → List ℕ) (keys : List Key) → AllByRecursion (λ key. 0 < length (f key)) keys → AllByRecursion (λ p. 0 < length p.1) (paired f keys)
some-paired f [] all = tt
some-paired f (key ∷ keys) all = (all.0, some-paired f keys all.1)

-- ---- the size

abbrev weight : Key → ℕ
weight key = length key + 31

size-paired : (start : ℕ) (f : Key → List ℕ) (keys : List Key) → keys_size (ranged start (paired f keys)) + 31 * length (ranged start (paired f keys)) ≡ sum_by weight keys
unfolding ranged
size-paired start f [] = omega arith
size-paired start f (key ∷ keys) = omega (arith, size-paired (start + length (f key)) f keys, sum_by-cons weight key keys)

sum-with : (key : Key) (keys : List Key) → sum_by weight (with_key key keys) ≤ weight key + sum_by weight keys
unfolding with_key
sum-with key [] = omega (arith, sum_by-cons weight key [])
sum-with key (other ∷ keys) =
    let rest = sum-with key keys in
    let with_both = sum_by-cons weight key (other ∷ keys) in
    let with_other = sum_by-cons weight other (with_key key keys) in
    let with_others = sum_by-cons weight other keys in
    elim (is_below key other) as (λ b. sum_by weight (cond b (key ∷ other ∷ keys) (cond (is_same key other) (other ∷ keys) (other ∷ with_key key keys))) ≤ weight key + sum_by weight (other ∷ keys)) [
      | true ↦ omega (arith, with_both)
      | false ↦ elim (is_same key other) as (λ b. sum_by weight (cond b (other ∷ keys) (other ∷ with_key key keys)) ≤ weight key + sum_by weight (other ∷ keys)) [
        | true ↦ omega arith
        | false ↦ omega (arith, rest, with_other, with_others)
      ]
    ]

sum-set : (keys : List Key) → sum_by weight (key_set keys) ≤ sum_by weight keys
unfolding key_set
sum-set [] = omega arith
sum-set (key ∷ keys) = omega (arith, sum-with key (key_set keys), sum-set keys, sum_by-cons weight key keys)

sum-pairs : (pairs : List Pair) → sum_by weight (map postings.key_of pairs) ≤ sum_by pair_size pairs
sum-pairs [] = omega arith
sum-pairs (pair ∷ pairs) = omega (arith, sum-pairs pairs, length-append pair.field (0 ∷ pair.term), sum_by-cons weight (postings.key_of pair) (map postings.key_of pairs), sum_by-cons pair_size pair pairs)

sum-docs : (docs : List Doc) → sum_by weight (keys_in docs) ≤ documents_size docs
sum-docs [] = omega arith
sum-docs (doc ∷ docs) = omega (arith, sum-docs docs, sum-pairs doc.pairs, sum_by-append weight (map postings.key_of doc.pairs) (keys_in docs), sum_by-cons (λ (doc : Doc). sum_by pair_size doc.pairs) doc docs)

-- ---- the entries that documents gather to

pub gathered-rising : (docs : List Doc) → is_rising (map (λ entry. entry.0) (gather docs).entries) ≡ true
unfolding gather
gathered-rising docs = rising-sorted (λ key. postings.numbers_of key docs) (key_set (keys_in docs)) (key_set-sorted (keys_in docs))

pub gathered-some : (docs : List Doc) → AllByRecursion (λ p. 0 < length p.1) (gather docs).entries
unfolding gather
gathered-some docs =
    some-paired (λ key. postings.numbers_of key docs) (key_set (keys_in docs))
    (all-weaker (λ key. had key docs ≡ true) (λ key. 0 < length (postings.numbers_of key docs)) (λ key is. numbers-some key docs is) (key_set (keys_in docs)) (all-set (λ key. had key docs ≡ true) (keys_in docs) (had-docs docs)))

pub gathered-postings : (docs : List Doc) → AreValidDocuments docs → list_all (is_posting (length docs)) (gather docs).entries ≡ true
unfolding gather
gathered-postings docs valid =
    all-paired (is_posting (length docs)) (λ key. postings.numbers_of key docs) (key_set (keys_in docs))
    (all-weaker (λ key. is_key key ≡ true) (λ key. is_posting (length docs) (key, postings.numbers_of key docs) ≡ true) (posting-test docs) (key_set (keys_in docs)) (all-set (λ key. is_key key ≡ true) (keys_in docs) (keys-docs docs valid.pairs)))

pub gathered-fit : (docs : List Doc) (bound : ℕ) → length docs ≤ bound → All (λ n. n < bound) (numbers_of_all (gather docs).entries)
unfolding gather
gathered-fit docs bound few =
    fit-paired bound (λ key. postings.numbers_of key docs) (key_set (keys_in docs)) (λ key k d within. let below = numbers-below key docs k d within in omega (arith, below, few))

pub gathered-small : (docs : List Doc) → documents_size docs ≤ 900000 * 4096 → keys_size (ranged 0 (gather docs).entries) + 31 * length (ranged 0 (gather docs).entries) + 21 < 2 ^ 32
unfolding gather
gathered-small docs small =
    let whole = size-paired 0 (λ key. postings.numbers_of key docs) (key_set (keys_in docs)) in
    let kept = sum-set (keys_in docs) in
    let all = sum-docs docs in
    omega (arith, whole, kept, all, small)

-- ---- how many numbers there are

chosen-few : (test : Doc → Bool) (start : ℕ) (docs : List Doc)
    → length (map (λ (numbered : ℕ × Doc). numbered.0) (filter (λ (numbered : ℕ × Doc). test numbered.1) (enumerate_from start docs))) ≤ length docs
chosen-few test start [] = omega arith
chosen-few test start (doc ∷ docs) =
    let rest = chosen-few test (start + 1) docs in
    let others = filter (λ (numbered : ℕ × Doc). test numbered.1) (enumerate_from (start + 1) docs) in
    elim (test doc) as (λ b. length (map (λ (numbered : ℕ × Doc). numbered.0) (cond b ((start, doc) ∷ others) others)) ≤ length (doc ∷ docs)) [
      | true ↦ omega (arith, rest)
      | false ↦ omega (arith, rest)
    ]

few-paired : (f : Key → List ℕ) (keys : List Key) → ((key : Key) → length (f key) < 2 ^ 32) → length (numbers_of_all (paired f keys)) ≤ 2 ^ 32 * length keys
few-paired f [] each = omega arith
few-paired f (key ∷ keys) each = omega (arith, few-paired f keys each, each key, length-append (f key) (numbers_of_all (paired f keys)))

length-ranged : (start : ℕ) (ps : List (Key × List ℕ)) → length (ranged start ps) ≡ length ps
unfolding ranged
length-ranged start [] = refl
length-ranged start (p ∷ ps) = ap suc (length-ranged (start + length p.1) ps)

gathered-few : (docs : List Doc) → length docs < 2 ^ 32 → documents_size docs ≤ 900000 * 4096 → length (numbers_of_all (gather docs).entries) < 2 ^ 64
unfolding gather
gathered-few docs few small =
    let keys = key_set (keys_in docs) in
    let numbers : Key → List ℕ = λ key. postings.numbers_of key docs in
    let all = few-paired numbers keys (λ key. let most = chosen-few (λ doc. has key doc.pairs) 0 docs in omega (arith, most, few)) in
    omega (arith, all, gathered-small docs small, length-ranged 0 (paired numbers keys), length-map {B = Key × List ℕ} keys (λ key. (key, numbers key)))

-- ---- the same of copies

pub rising-at : (docs : List Doc) (ps : List (Key × List ℕ)) → ps ≡ (gather docs).entries → is_rising (map (λ entry. entry.0) ps) ≡ true
rising-at docs ps is = subst (λ ps. is_rising (map (λ (entry : Key × List ℕ). entry.0) ps) ≡ true) (sym is) (gathered-rising docs)

pub small-at : (docs : List Doc) (ps : List (Key × List ℕ)) → documents_size docs ≤ 900000 * 4096 → ps ≡ (gather docs).entries → keys_size (ranged 0 ps) + 31 * length (ranged 0 ps) + 21 < 2 ^ 32
small-at docs ps small is = subst (λ ps. keys_size (ranged 0 ps) + 31 * length (ranged 0 ps) + 21 < 2 ^ 32) (sym is) (gathered-small docs small)

pub fit-at : (docs : List Doc) (ps : List (Key × List ℕ)) (bound : ℕ) → length docs ≤ bound → ps ≡ (gather docs).entries → All (λ n. n < bound) (numbers_of_all ps)
fit-at docs ps bound few is = subst (λ ps. All (λ n. n < bound) (numbers_of_all ps)) (sym is) (gathered-fit docs bound few)

pub few-at : (docs : List Doc) (ps : List (Key × List ℕ)) → length docs < 2 ^ 32 → documents_size docs ≤ 900000 * 4096 → ps ≡ (gather docs).entries → length (numbers_of_all ps) < 2 ^ 64
few-at docs ps few small is = subst (λ ps. length (numbers_of_all ps) < 2 ^ 64) (sym is) (gathered-few docs few small)
