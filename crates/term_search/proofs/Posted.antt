-- The numbers at a key are those of the documents that hold its term in its field.
use Rattle.std.proofs.Common.{rules, ◌≡◌, ◌∙◌, sym, ap, subst, refl, ℕ, zero, suc, ◌+◌, ◌<◌, Bool, true, false, ◌&&◌, ◌||◌, List, [], ◌∷◌, ◌++◌, map, filter, length, Some, None, All, slice_get, arith, nat_eq, flat_map}
use Rattle.std.specs.Prelude.{unwrap_or, bytes_eq}
use Rattle.std.specs.List.{list_any, enumerate_from, range_with_len}
use Rattle.std.specs.FinSet.{contains, from_list, contains-from_list_nat}
use Rattle.std.specs.Ordering.{nat_cmp, is_eq}
use Rattle.std.specs.Cmp.Lexicographic.{slice_cmp, bytes_decides, nat_list_eq_equiv}
use Rattle.std.specs.declared.cmp.Ordering.{Ordering}
use Rattle.std.specs.declared.cmp.Ordering.TheVariants.{Less, Equal, Greater}
use Rattle.std.proofs.lemmas.Map.Text.{is_eq-slice_cmp}
use Rattle.std.proofs.lemmas.List.Folds.{list_any-append}
use Rattle.owned_bytes.specs.Keys.{Key, is_same, is_below, is_equal, with_key, key_set}
use Rattle.common_bitset.specs.Numbers.{Numbers, rising}
use Rattle.sstable_format.specs.Entries.{value_at}
use Rattle.documents.specs.declared.documents.Pair.{Pair}
use Rattle.documents.specs.declared.documents.Doc.{Doc}
use Rattle.documents.specs.Documents.{IsField, IsValidPair, AreValidDocuments, numbers_where, holds}
use Rattle.documents.specs.Postings.{gather, key_of, keys_of, numbers_of}
use Rattle.term_search.specs.Members.{HasThose}

-- ---- numbers of documents, of which the first has number k

abbrev numbers_from : ℕ → (Doc → Bool) → List Doc → List ℕ
numbers_from k test docs = map (λ (numbered : ℕ × Doc). numbered.0) (filter (λ (numbered : ℕ × Doc). test numbered.1) (enumerate_from k docs))

abbrev has : ℕ → List ℕ → Bool
has n numbers = list_any (λ y. nat_eq y n) numbers

same_number : (n : ℕ) → nat_eq n n ≡ true
same_number n = search rules

other_number : (m n : ℕ) → m < n → nat_eq n m ≡ false
other_number m n h = grind arith

none_below : (m k : ℕ) (test : Doc → Bool) (docs : List Doc) → m < k → has m (numbers_from k test docs) ≡ false
none_below m k test [] h = refl
none_below m k test (d ∷ docs) h = by (none_below m (k + 1) test docs (omega arith)) (test d) refl
  where
    by : has m (numbers_from (k + 1) test docs) ≡ false → (t : Bool) → test d ≡ t → has m (numbers_from k test (d ∷ docs)) ≡ false
    by later true e = rw e (ap (λ b. b || has m (numbers_from (k + 1) test docs)) (other_number m k h) ∙ later)
    by later false e = rw e later

has-first : (k : ℕ) (test : Doc → Bool) (d : Doc) (docs : List Doc) → has k (numbers_from k test (d ∷ docs)) ≡ test d
has-first k test d docs = by (test d) refl
  where
    by : (t : Bool) → test d ≡ t → has k (numbers_from k test (d ∷ docs)) ≡ test d
    by true e = rw e (ap (λ b. b || has k (numbers_from (k + 1) test docs)) (same_number k))
    by false e = rw e (none_below k (k + 1) test docs (omega arith))

or_true_not : (b : Bool) → b ≡ false → (c : Bool) → (b || c) ≡ c
or_true_not b e c = ap (λ x. x || c) e

has-later : (k n : ℕ) (test : Doc → Bool) (d : Doc) (docs : List Doc) → k < n → has n (numbers_from k test (d ∷ docs)) ≡ has n (numbers_from (k + 1) test docs)
has-later k n test d docs h = by (test d) refl
  where
    by : (t : Bool) → test d ≡ t → has n (numbers_from k test (d ∷ docs)) ≡ has n (numbers_from (k + 1) test docs)
    by true e = rw e (or_true_not (nat_eq k n) (grind arith) (has n (numbers_from (k + 1) test docs)))
    by false e = rw e refl

-- a number is among them exactly where its document passes the test
pub found_numbers : (k i : ℕ) (test : Doc → Bool) (docs : List Doc) (doc : Doc) → slice_get docs i ≡ Some doc → has (k + i) (numbers_from k test docs) ≡ test doc
found_numbers k i test [] doc h = (let apart : None ≡ Some doc = h in cc)
found_numbers k zero test (d ∷ docs) doc h =
    ap (λ n. has n (numbers_from k test (d ∷ docs))) (let e : k + 0 ≡ k = omega arith in e) ∙ has-first k test d docs ∙ ap test (let e : d ≡ doc = cc in e)
found_numbers k (suc i) test (d ∷ docs) doc h =
    has-later k (k + suc i) test d docs (omega arith) ∙ ap (λ n. has n (numbers_from (k + 1) test docs)) (let e : k + suc i ≡ (k + 1) + i = omega arith in e)
    ∙ found_numbers (k + 1) i test docs doc h

-- ---- a set that has those of the documents

rising_from : (k : ℕ) (s : Numbers) (test : Doc → Bool) (docs : List Doc) → ((i : ℕ) (doc : Doc) → slice_get docs i ≡ Some doc → contains s (k + i) ≡ test doc)
    → filter (contains s) (range_with_len k (length docs)) ≡ numbers_from k test docs
rising_from k s test [] each = refl
rising_from k s test (d ∷ docs) each = by (rising_from (k + 1) s test docs later) first (test d) refl
  where
    first : contains s k ≡ test d
    first = ap (contains s) (let e : k ≡ k + 0 = omega arith in e) ∙ each 0 d refl

    later : (i : ℕ) (doc : Doc) → slice_get docs i ≡ Some doc → contains s ((k + 1) + i) ≡ test doc
    later i doc h = ap (contains s) (let e : (k + 1) + i ≡ k + suc i = omega arith in e) ∙ each (suc i) doc h

    by : filter (contains s) (range_with_len (k + 1) (length docs)) ≡ numbers_from (k + 1) test docs → contains s k ≡ test d → (t : Bool) → test d ≡ t
        → filter (contains s) (range_with_len k (length (d ∷ docs))) ≡ numbers_from k test (d ∷ docs)
    by more here true e = rw (here, e) (ap (λ ns. k ∷ ns) more)
    by more here false e = rw (here, e) more

pub rising_those : (docs : List Doc) (test : Doc → Bool) (s : Numbers) → HasThose docs test s → rising (length docs) s ≡ numbers_where test docs
unfolding rising
rising_those docs test s those = rising_from 0 s test docs (λ i doc h. ap (contains s) (let e : 0 + i ≡ i = omega arith in e) ∙ those.each i doc h)

-- ---- keys

equal-eq : (o : Ordering) → is_equal o ≡ is_eq o
equal-eq Less = refl
equal-eq Equal = refl
equal-eq Greater = refl

same-bytes : (a b : Key) → is_same a b ≡ bytes_eq a b
same-bytes a b = equal-eq (slice_cmp nat_cmp a b) ∙ is_eq-slice_cmp a b

pub same_is : (a b : Key) → is_same a b ≡ true → a ≡ b
same_is a b h = (bytes_decides a b).0 (sym (same-bytes a b) ∙ h)

-- no byte of the field is 0
abbrev HasNoZero : List ℕ → Type 0
HasNoZero field = All (λ byte. 1 < byte) field

no_zero_first : (b : ℕ) (bs : List ℕ) → HasNoZero (b ∷ bs) → 1 < b
no_zero_first b bs h = h 0 0 (omega arith)

no_zero_later : (b : ℕ) (bs : List ℕ) → HasNoZero (b ∷ bs) → HasNoZero bs
no_zero_later b bs h = λ k d less. h (suc k) d (omega arith)

and_assoc : (a b c : Bool) → ((a && b) && c) ≡ (a && (b && c))
and_assoc true b c = refl
and_assoc false b c = refl

key_same : (f g s t : List ℕ) → HasNoZero f → HasNoZero g → bytes_eq (f ++ 0 ∷ s) (g ++ 0 ∷ t) ≡ (bytes_eq f g && bytes_eq s t)
key_same [] [] s t hf hg = refl
key_same [] (b ∷ g) s t hf hg =
    ap (λ x. x && bytes_eq s (g ++ 0 ∷ t)) (let apart : 1 < b = no_zero_first b g hg in let e : nat_eq 0 b ≡ false = grind arith in e)
key_same (a ∷ f) [] s t hf hg =
    ap (λ x. x && bytes_eq (f ++ 0 ∷ s) t) (let apart : 1 < a = no_zero_first a f hf in let e : nat_eq a 0 ≡ false = grind arith in e)
key_same (a ∷ f) (b ∷ g) s t hf hg =
    ap (λ x. nat_eq a b && x) (key_same f g s t (no_zero_later a f hf) (no_zero_later b g hg)) ∙ sym (and_assoc (nat_eq a b) (bytes_eq f g) (bytes_eq s t))

bytes_swap : (a b : List ℕ) → bytes_eq a b ≡ bytes_eq b a
bytes_swap a b = nat_list_eq_equiv.symm a b

pair_same : (field term : List ℕ) (pair : Pair) → HasNoZero field → HasNoZero pair.field
    → is_same (field ++ 0 ∷ term) (key_of pair) ≡ (bytes_eq pair.field field && bytes_eq pair.term term)
pair_same field term pair own its =
    same-bytes (field ++ 0 ∷ term) (pair.field ++ 0 ∷ pair.term) ∙ key_same field pair.field term pair.term own its
    ∙ ap (λ b. b && bytes_eq term pair.term) (bytes_swap field pair.field) ∙ ap (λ b. bytes_eq pair.field field && b) (bytes_swap term pair.term)

pairs_hold : (field term : List ℕ) (pairs : List Pair) → HasNoZero field → All IsValidPair pairs
    → list_any (λ pair. is_same (field ++ 0 ∷ term) (key_of pair)) pairs ≡ list_any (λ (pair : Pair). bytes_eq pair.field field && bytes_eq pair.term term) pairs
pairs_hold field term [] own valid = refl
pairs_hold field term (p ∷ pairs) own valid =
    ap (λ b. b || list_any (λ pair. is_same (field ++ 0 ∷ term) (key_of pair)) pairs)
    (let first : IsValidPair p = valid 0 p (omega arith) in pair_same field term p own first.field.no_separator)
    ∙ ap (λ b. (bytes_eq p.field field && bytes_eq p.term term) || b) (pairs_hold field term pairs own (λ k d less. valid (suc k) d (omega arith)))

-- ---- the keys of documents

or_swap : (a b c : Bool) → (a || (b || c)) ≡ (b || (a || c))
or_swap true true c = refl
or_swap true false c = refl
or_swap false b c = refl

or_same : (b c : Bool) → (b || c) ≡ (b || (b || c))
or_same true c = refl
or_same false c = refl

any-with_key : (key k : Key) (keys : List Key) → list_any (is_same key) (with_key k keys) ≡ (is_same key k || list_any (is_same key) keys)
unfolding with_key
any-with_key key k [] = refl
any-with_key key k (other ∷ keys) = by (any-with_key key k keys) (is_below k other) (is_same k other) refl refl
  where
    by : list_any (is_same key) (with_key k keys) ≡ (is_same key k || list_any (is_same key) keys) → (below same : Bool) → is_below k other ≡ below → is_same k other ≡ same
        → list_any (is_same key) (with_key k (other ∷ keys)) ≡ (is_same key k || list_any (is_same key) (other ∷ keys))
    by more true same e f = rw e refl
    by more false true e f =
        rw (e, f) (ap (λ b. b || list_any (is_same key) keys) (sym (ap (is_same key) (same_is k other f))) ∙ or_same (is_same key k) (list_any (is_same key) keys)
        ∙ ap (λ b. is_same key k || (b || list_any (is_same key) keys)) (ap (is_same key) (same_is k other f)))
    by more false false e f = rw (e, f) (ap (λ b. is_same key other || b) more ∙ or_swap (is_same key other) (is_same key k) (list_any (is_same key) keys))

any-key_set : (key : Key) (keys : List Key) → list_any (is_same key) (key_set keys) ≡ list_any (is_same key) keys
unfolding key_set
any-key_set key [] = refl
any-key_set key (k ∷ keys) = any-with_key key k (key_set keys) ∙ ap (λ b. is_same key k || b) (any-key_set key keys)

any-map : {A B : Type 0} (test : B → Bool) (f : A → B) (xs : List A) → list_any test (map f xs) ≡ list_any (λ x. test (f x)) xs
any-map test f [] = refl
any-map test f (x ∷ xs) = ap (λ b. test (f x) || b) (any-map test f xs)

first_false : (a b : Bool) → (a || b) ≡ false → a ≡ false
first_false false b h = refl
first_false true b h = cc

second_false : (a b : Bool) → (a || b) ≡ false → b ≡ false
second_false false b h = h
second_false true b h = cc

none_in_doc : (key : Key) (docs : List Doc) (i : ℕ) (doc : Doc) → list_any (is_same key) (flat_map (λ d. map key_of d.pairs) docs) ≡ false → slice_get docs i ≡ Some doc
    → list_any (λ pair. is_same key (key_of pair)) doc.pairs ≡ false
none_in_doc key [] i doc none h = (let apart : None ≡ Some doc = h in cc)
none_in_doc key (d ∷ docs) zero doc none h =
    let both = sym (list_any-append (is_same key) (map key_of d.pairs) (flat_map (λ x. map key_of x.pairs) docs)) ∙ none in
    let own : list_any (λ pair. is_same key (key_of pair)) d.pairs ≡ false = sym (any-map (is_same key) key_of d.pairs) ∙ first_false _ _ both in
    let same : d ≡ doc = cc in
    ap (λ x. list_any (λ pair. is_same key (key_of pair)) x.pairs) (sym same) ∙ own
none_in_doc key (d ∷ docs) (suc i) doc none h =
    let both = sym (list_any-append (is_same key) (map key_of d.pairs) (flat_map (λ x. map key_of x.pairs) docs)) ∙ none in
    none_in_doc key docs i doc (second_false _ _ both) h

-- ---- what is found at a key

abbrev entries_at : List Doc → List Key → List (Key × List ℕ)
entries_at docs keys = map (λ key. (key, numbers_of key docs)) keys

value_here : (docs : List Doc) (key : Key) (keys : List Key) → list_any (is_same key) keys ≡ true → value_at key (entries_at docs keys) ≡ Some (numbers_of key docs)
unfolding value_at
value_here docs key [] h = cc
value_here docs key (k ∷ keys) h = by (value_here docs key keys) (is_same key k) refl h
  where
    by : (list_any (is_same key) keys ≡ true → value_at key (entries_at docs keys) ≡ Some (numbers_of key docs)) → (b : Bool) → is_same key k ≡ b
        → list_any (is_same key) (k ∷ keys) ≡ true → value_at key (entries_at docs (k ∷ keys)) ≡ Some (numbers_of key docs)
    by more true e h = rw e (ap (λ x. Some (numbers_of x docs)) (sym (same_is key k e)))
    by more false e h = rw e (more (sym (ap (λ b. b || list_any (is_same key) keys) e) ∙ h))

value_nowhere : (docs : List Doc) (key : Key) (keys : List Key) → list_any (is_same key) keys ≡ false → value_at key (entries_at docs keys) ≡ None
unfolding value_at
value_nowhere docs key [] h = refl
value_nowhere docs key (k ∷ keys) h =
    rw (first_false (is_same key k) (list_any (is_same key) keys) h) (value_nowhere docs key keys (second_false (is_same key k) (list_any (is_same key) keys) h))

-- a document is among those of a key exactly where it has a pair of the key
has_key : (docs : List Doc) (key : Key) (i : ℕ) (doc : Doc) → slice_get docs i ≡ Some doc
    → has i (unwrap_or (value_at key (gather docs).entries) []) ≡ list_any (λ pair. is_same key (key_of pair)) doc.pairs
unfolding gather
has_key docs key i doc at = by (list_any (is_same key) (keys_of docs)) refl
  where
    by : (b : Bool) → list_any (is_same key) (keys_of docs) ≡ b
        → has i (unwrap_or (value_at key (entries_at docs (keys_of docs))) []) ≡ list_any (λ pair. is_same key (key_of pair)) doc.pairs
    by true e =
        ap (λ o. has i (unwrap_or o [])) (value_here docs key (keys_of docs) e)
        ∙ ap (λ n. has n (numbers_of key docs)) (let z : i ≡ 0 + i = omega arith in z) ∙ found_numbers 0 i (λ d. list_any (λ pair. is_same key (key_of pair)) d.pairs) docs doc at
    by false e =
        ap (λ o. has i (unwrap_or o [])) (value_nowhere docs key (keys_of docs) e)
        ∙ sym (none_in_doc key docs i doc (sym (any-key_set key _) ∙ e) at)

pub doc_pairs : (docs : List Doc) (i : ℕ) (doc : Doc) → All (λ (d : Doc). All IsValidPair d.pairs) docs → slice_get docs i ≡ Some doc → All IsValidPair doc.pairs
doc_pairs [] i doc all h = (let apart : None ≡ Some doc = h in cc)
doc_pairs (d ∷ docs) zero doc all h = let same : d ≡ doc = cc in subst (λ (x : Doc). All IsValidPair x.pairs) same (all 0 d (omega arith))
doc_pairs (d ∷ docs) (suc i) doc all h = doc_pairs docs i doc (λ k x less. all (suc k) x (omega arith)) h

pub posted : (docs : List Doc) (field term : List ℕ) (i : ℕ) (doc : Doc) → AreValidDocuments docs → IsField field → slice_get docs i ≡ Some doc
    → contains {R = nat_cmp} (from_list (unwrap_or (value_at (field ++ 0 ∷ term) (gather docs).entries) [])) i ≡ holds doc field term
posted docs field term i doc valid own at =
    contains-from_list_nat _ i ∙ has_key docs (field ++ 0 ∷ term) i doc at ∙ pairs_hold field term doc.pairs own.no_separator (doc_pairs docs i doc valid.pairs at)
