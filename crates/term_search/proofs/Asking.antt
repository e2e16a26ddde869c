-- What a file shows after it was asked for one thing after the other.
use Rattle.std.proofs.Common.{◌≡◌, ◌∙◌, sym, ap, subst, refl, ℕ, zero, suc, ◌+◌, ◌-◌, ◌<◌, ◌≤◌, Bool, true, false, not, ◌==◌, List, [], ◌∷◌, ◌++◌, length, map, filter, take, drop, get_or, Option, Some, None, Result, Err, All, arith, length-append, length-take, take-append-drop}
use Rattle.std.specs.Prelude.{unwrap_or, bytes_eq, sum, nat_le, nat_lt}
use Rattle.std.specs.List.{list_all}
use Rattle.std.specs.declared.ops.Range.{Range}
use Rattle.std.specs.Cmp.Lexicographic.{bytes_decides}
use Rattle.std.proofs.Math.Dec.{eqb-suc-zero}
use Rattle.std.proofs.lemmas.Bool.{and_from, leb-true, leb-false, lt-ltb, false≢true}
use Rattle.std.proofs.lemmas.List.{map-append}
use Rattle.std.proofs.lemmas.List.Elements.{All-head, All-tail, filter-append}
use Rattle.std.proofs.lemmas.List.Sums.{sum-map, sum_by-append, sum_by-cons}
use Rattle.owned_bytes.specs.Front.{◌>>=◌}
use Rattle.owned_bytes.specs.Keys.{Key, is_same}
use Rattle.owned_bytes.specs.Outside.{FileState, LeavesFile}
use Rattle.owned_bytes.proofs.FileReads.{leaves-as, leaves-then}
use Rattle.sstable_values.specs.Codec.{range}
use Rattle.sstable_blocks.specs.Run.{Block, entries_of}
use Rattle.sstable_format.specs.Entries.{value_at}
use Rattle.tantivy_sstable.specs.Opened.{blocks_in, blocks_told}
use Rattle.sstable_format.specs.Table.{longest}
use Rattle.documents.specs.declared.documents.Pair.{Pair}
use Rattle.documents.specs.Documents.{IsField, is_field}
use Rattle.documents.specs.Postings.{Postings}
use Rattle.printed_queries.specs.Lookups.{Lookup}
use Rattle.index_file.specs.Header.{width_of, numbers_in}
use Rattle.index_file.specs.IndexFile.{parted, with_numbers, postings_of}
use Rattle.term_search.specs.Search.{matches, matches_key, block_length, greatest, range_length, lookup_cost}
use Rattle.index_reading.specs.declared.open.OpenIndex.{OpenIndex}
use Rattle.index_reading.specs.declared.errors.IndexError.{IndexError}
use Rattle.index_reading.specs.declared.errors.IndexError.TheVariants as errors
use Rattle.index_reading.specs.Opened.{header_of, postings_in, postings_told}
use Rattle.index_reading.specs.LookUp.{FetchesParts, FetchesNumbers, numbers_length}
use Rattle.index_reading.proofs.Places.{bytes-within}
use Rattle.term_search.specs.declared.answer.SearchError.{SearchError}
use Rattle.term_search.specs.declared.answer.SearchError.TheVariants.{Memory, Version, Corrupt, Compressed, Read}
use Rattle.term_search.specs.Members.{IsAsked, asked_of, error_of_index, lookup_of, lookups_cost}
use Rattle.term_search.proofs.Equations.{one_more}
use Rattle.term_search.proofs.Posted.{same_is}
use Rattle.term_search.proofs.Leaf.{postings_are}

-- ---- the key of a term is of a pair that is looked for

parted-key : (field term : List ℕ) → All (λ byte. 1 < byte) field → parted (field ++ 0 ∷ term) ≡ Some (record { field = field; term = term })
unfolding parted
parted-key [] term above = refl
parted-key (zero ∷ field) term above = let first : 1 < 0 = All-head (λ byte. 1 < byte) 0 field above in absurd (omega (arith, first))
parted-key (suc byte ∷ field) term above =
    ap (λ o. o >>= (λ (pair : Pair). Some (record { field = suc byte ∷ pair.field; term = pair.term }))) (parted-key field term (All-tail (λ byte. 1 < byte) (suc byte) field above))

key-matches : (field term : List ℕ) → IsField field → matches_key (lookup_of field term) (field ++ 0 ∷ term) ≡ true
key-matches field term own =
    ap (λ o. elim o [ Some pair ↦ matches (lookup_of field term) pair | None ↦ false ]) (parted-key field term own.no_separator)
    ∙ and_from (bytes_eq field field) (bytes_eq term term) ((bytes_decides field field).1 refl) ((bytes_decides term term).1 refl)

-- ---- the numbers at a key are among those at all keys that pass a test

-- how many numbers stand at these keys
abbrev count_where : (Key → Bool) → List (Key × Range ℕ) → ℕ
count_where test entries = sum (map (λ entry. range_length entry.1) (filter (λ entry. test entry.0) entries))

sum-cons : {A : Type 0} (f : A → ℕ) (x : A) (xs : List A) → sum (map f (x ∷ xs)) ≡ f x + sum (map f xs)
sum-cons f x xs = omega (arith, sum-map f (x ∷ xs), sum_by-cons f x xs, sum-map f xs)

numbers-among : (test : Key → Bool) (key : Key) (numbers : List ℕ) (entries : List (Key × Range ℕ)) → test key ≡ true
    → length (unwrap_or (value_at key (map (with_numbers numbers) entries)) []) ≤ count_where test entries
unfolding value_at
numbers-among test key numbers [] passes = omega arith
numbers-among test key numbers (entry ∷ entries) passes = by (numbers-among test key numbers entries passes) (is_same key entry.0) refl (test entry.0) refl
  where
    by : length (unwrap_or (value_at key (map (with_numbers numbers) entries)) []) ≤ count_where test entries → (same : Bool) → is_same key entry.0 ≡ same → (found : Bool) → test entry.0 ≡ found
        → length (unwrap_or (value_at key (map (with_numbers numbers) (entry ∷ entries))) []) ≤ count_where test (entry ∷ entries)
    by more true e true f =
        rw (e, f) (omega (arith, sum-cons (λ (one : Key × Range ℕ). range_length one.1) entry (filter (λ (one : Key × Range ℕ). test one.0) entries), length-take (entry.1.end - entry.1.start) (drop entry.1.start numbers)))
    by more true e false f = absurd (false≢true (sym f ∙ ap test (sym (same_is key entry.0 e)) ∙ passes))
    by more false e true f = rw (e, f) (omega (arith, more, sum-cons (λ (one : Key × Range ℕ). range_length one.1) entry (filter (λ (one : Key × Range ℕ). test one.0) entries)))
    by more false e false f = rw (e, f) more

-- ---- what a look-up may cost is enough for one key

longest-greatest : {V : Type 0} (blocks : List (Block V)) → longest blocks ≤ greatest (map block_length blocks)
unfolding greatest
longest-greatest [] = omega arith
longest-greatest (block ∷ blocks) = by (longest-greatest blocks) (nat_le (greatest (map block_length blocks)) (block_length block)) refl
  where
    by : longest blocks ≤ greatest (map block_length blocks) → (low : Bool) → nat_le (greatest (map block_length blocks)) (block_length block) ≡ low
        → longest (block ∷ blocks) ≤ greatest (map block_length (block ∷ blocks))
    by more true e = rw e (omega (arith, more, leb-true _ _ e))
    by more false e = rw e (omega (arith, more, leb-false _ _ e))

key-covered : (index : OpenIndex) (blocks : List (Block (Range ℕ))) (postings : Postings) (key : Key) (wanted : Lookup) → length (unwrap_or (value_at key postings.entries) []) ≤ count_where (matches_key wanted) (entries_of blocks)
    → longest blocks + 4 + numbers_length index postings key ≤ lookup_cost (width_of index.documents) blocks wanted
unfolding lookup_cost
key-covered index blocks postings key wanted few =
    omega (
      arith,
      longest-greatest blocks,
      bytes-within (length (unwrap_or (value_at key postings.entries) [])) (count_where (matches_key wanted) (entries_of blocks)) (width_of index.documents) few,
    )

-- ---- the postings are those of the blocks' entries

entries-told : (index : OpenIndex) (file : List ℕ) (blocks : List (Block (Range ℕ))) (postings : Postings) → blocks_in range index.dictionary file ≡ Some blocks → postings_in index file ≡ Some postings
    → postings.entries ≡ map (with_numbers (numbers_in (header_of index file))) (entries_of blocks)
unfolding postings_in
entries-told index file blocks postings told same =
    ap (λ (p : Postings). p.entries) (sym (postings_are (header_of index file) (entries_of blocks) postings
    (sym (ap (λ (o : Option (List (Block (Range ℕ)))). (o >>= (λ found. Some (entries_of found))) >>= postings_of (header_of index file)) told) ∙ same)))

numbers-told : (index : OpenIndex) (contents : Option (List ℕ)) (test : Key → Bool) (key : Key) (blocks : List (Block (Range ℕ))) (postings : Postings) → test key ≡ true
    → blocks_told range index.dictionary contents ≡ Some blocks → postings_told index contents ≡ Some postings → length (unwrap_or (value_at key postings.entries) []) ≤ count_where test (entries_of blocks)
numbers-told index None test key blocks postings passes told same = (let apart : None ≡ Some blocks = told in absurd cc)
numbers-told index (Some file) test key blocks postings passes told same =
    subst (λ (entries : List (Key × List ℕ)). length (unwrap_or (value_at key entries) []) ≤ count_where test (entries_of blocks)) (sym (entries-told index file blocks postings told same))
    (numbers-among test key (numbers_in (header_of index file)) (entries_of blocks) passes)

-- ---- one term

all_above : (bytes : List ℕ) → All (λ byte. 1 < byte) bytes → list_all (λ byte. nat_lt 1 byte) bytes ≡ true
all_above [] above = refl
all_above (byte ∷ bytes) above =
    and_from (nat_lt 1 byte) (list_all (λ b. nat_lt 1 b) bytes) (lt-ltb 1 byte (All-head (λ b. 1 < b) byte bytes above)) (all_above bytes (All-tail (λ b. 1 < b) byte bytes above))

field_is : (field : List ℕ) → IsField field → is_field field ≡ true
field_is [] own = let some : 0 < 0 = own.not_empty in absurd (omega (arith, some))
field_is (byte ∷ field) own =
    and_from (not (length (byte ∷ field) == 0)) (list_all (λ b. nat_lt 1 b) (byte ∷ field)) (ap not (eqb-suc-zero (length field))) (all_above (byte ∷ field) own.no_separator)

asked_one : (field term : List ℕ) → is_field field ≡ true → length (asked_of (lookup_of field term ∷ [])) ≡ 1
asked_one field term own = rw own refl

pub asks_term : (index : OpenIndex) (field term : List ℕ) (key : Key) (before now : FileState) (P Q : Type 0) → key ≡ field ++ 0 ∷ term → IsField field
    → LeavesFile before now P → (Q → P) → now.reads ≤ before.reads + 2 → FetchesNumbers index key before now → IsAsked index (lookup_of field term ∷ []) before now Q
asks_term index field term key before now P Q is own leaves as_failed reads fetches = record {
  leaves = leaves-as before now P Q as_failed leaves;
  reads = omega (arith, reads, asked_one field term (field_is field own));
  fetched = λ blocks postings told same.
      let parts : now.fetched ≤ before.fetched + (longest blocks + 4 + numbers_length index postings key) =
      subst (λ o. FetchesParts index o (Some postings) key before now) told (subst (λ o. FetchesParts index (blocks_told range index.dictionary before.contents) o key before now) same fetches) in
      let passes : matches_key (lookup_of field term) key ≡ true = ap (matches_key (lookup_of field term)) is ∙ key-matches field term own in
      let few = numbers-told index before.contents (matches_key (lookup_of field term)) key blocks postings passes told same in
      omega (
        arith,
        parts,
        key-covered index blocks postings key (lookup_of field term) few,
        sum-cons (lookup_cost (width_of index.documents) blocks) (lookup_of field term) [],
      );
}

read_alone : (e : IndexError) → error_of_index e ≡ Read → e ≡ errors.Read
read_alone errors.Memory h = (let apart : Memory ≡ Read = h in cc)
read_alone errors.Read h = refl
read_alone errors.Corrupt h = (let apart : Corrupt ≡ Read = h in cc)
read_alone (errors.Compressed place) h = (let apart : Compressed place ≡ Read = h in cc)
read_alone (errors.Version version) h = (let apart : Version version ≡ Read = h in cc)

-- a fault is named only where the index named one
abbrev failed : (T : Type 0) → IndexError → Result T IndexError
failed T e = Err e

pub as_read : {T : Type 0} (e : IndexError) (error : SearchError) → error ≡ error_of_index e → error ≡ Read → failed T e ≡ failed T errors.Read
as_read {T} e error is read = ap (failed T) (read_alone e (sym is ∙ read))

-- ---- one thing after the other

asked-append : (xs ys : List Lookup) → length (asked_of (xs ++ ys)) ≡ length (asked_of xs) + length (asked_of ys)
asked-append xs ys = ap (λ (ws : List Lookup). length ws) (filter-append (λ (one : Lookup). is_field one.field) xs ys) ∙ length-append (asked_of xs) (asked_of ys)

cost-append : (index : OpenIndex) (blocks : List (Block (Range ℕ))) (xs ys : List Lookup) → lookups_cost index blocks (xs ++ ys) ≡ lookups_cost index blocks xs + lookups_cost index blocks ys
cost-append index blocks xs ys =
    let each : Lookup → ℕ = lookup_cost (width_of index.documents) blocks in
    omega (arith, sum-map each (xs ++ ys), sum_by-append each xs ys, sum-map each xs, sum-map each ys)

pub asks_more : (index : OpenIndex) (xs ys : List Lookup) (before middle now : FileState) (P Q : Type 0) → IsAsked index xs before middle P → IsAsked index ys middle now Q
    → IsAsked index (xs ++ ys) before now Q
asks_more index xs ys before middle now P Q first second = record {
  leaves = leaves-then before middle now P Q first.leaves second.leaves;
  reads = omega (arith, first.reads, second.reads, asked-append xs ys);
  fetched = λ blocks postings told same.
      omega (
        arith,
        first.fetched blocks postings told same,
        second.fetched blocks postings (ap (blocks_told range index.dictionary) first.leaves.contents ∙ told) (ap (postings_told index) first.leaves.contents ∙ same),
        cost-append index blocks xs ys,
      );
}

pub asks_same : (index : OpenIndex) (xs ys : List Lookup) (before now : FileState) (P : Type 0) → xs ≡ ys → IsAsked index xs before now P → IsAsked index ys before now P
asks_same index xs ys before now P same asks = subst (λ ws. IsAsked index ws before now P) same asks

pub asks_front : (index : OpenIndex) (xs ys : List Lookup) (before now : FileState) (P : Type 0) → IsAsked index xs before now P → IsAsked index (xs ++ ys) before now P
asks_front index xs ys before now P asks = record {
  leaves = asks.leaves;
  reads = omega (arith, asks.reads, asked-append xs ys);
  fetched = λ blocks postings told same. omega (arith, asks.fetched blocks postings told same, cost-append index blocks xs ys);
}

-- ---- the terms of a set

pub terms_next : (index : OpenIndex) (field : List ℕ) (terms : List (List ℕ)) (i : ℕ) (term item : List ℕ) (before middle now : FileState) (P Q : Type 0)
    → i < length terms → item ≡ get_or terms i item → term ≡ item
    → IsAsked index (map (lookup_of field) (take i terms)) before middle P → IsAsked index (lookup_of field term ∷ []) middle now Q
    → IsAsked index (map (lookup_of field) (take (i + 1) terms)) before now Q
terms_next index field terms i term item before middle now P Q less at shown first second =
    asks_same index _ _ before now Q
    (ap (λ (t : List ℕ). map (lookup_of field) (take i terms) ++ lookup_of field t ∷ []) shown
    ∙ sym (map-append (lookup_of field) (take i terms) (item ∷ [])) ∙ ap (map (lookup_of field)) (sym (one_more terms i item less at)))
    (asks_more index (map (lookup_of field) (take i terms)) (lookup_of field term ∷ []) before middle now P Q first second)

pub terms_ended : (index : OpenIndex) (field : List ℕ) (terms : List (List ℕ)) (n : ℕ) (before now : FileState) (P : Type 0) → IsAsked index (map (lookup_of field) (take n terms)) before now P
    → IsAsked index (map (lookup_of field) terms) before now P
terms_ended index field terms n before now P asks =
    asks_same index _ _ before now P
    (sym (map-append (lookup_of field) (take n terms) (drop n terms)) ∙ ap (map (lookup_of field)) (take-append-drop n terms))
    (asks_front index (map (lookup_of field) (take n terms)) (map (lookup_of field) (drop n terms)) before now P asks)
