-- What the numbers at a key are.
use Rattle.std.proofs.Common.{◌≡◌, ℕ, ◌+◌, ◌-◌, ◌<◌, ◌≤◌, ◌⊎◌, ⊎_elim, inl, inr, List, [], ◌∷◌, length, take, drop, map, All, Option, Some, None, Result, Ok, Err, Bool, true, false, refl, ap, sym, ◌∙◌, subst, arith, length-take, length-drop}
use Rattle.std.specs.Prelude.{nat_lt, ◌&&◌, ◌==◌, option_map, unwrap_or, if◌then◌else◌, IfSome}
use Rattle.std.specs.List.{list_all}
use Rattle.std.specs.declared.ops.Range.{Range}
use Rattle.std.proofs.lemmas.List.Elements.{All-nil, All-cons}
use Rattle.std.proofs.lemmas.Bool.{and_parts, ltb-true, eqb-true}
use Rattle.owned_bytes.specs.Front.{◌>>=◌, provided}
use Rattle.owned_bytes.specs.Keys.{Key, is_same}
use Rattle.owned_bytes.specs.Outside.{FileState}
use Rattle.sstable_values.specs.Codec.{range}
use Rattle.sstable_blocks.specs.Run.{Block}
use Rattle.tantivy_bitpacker.proofs.Unpacking.{length-unpacked_from}
use Rattle.sstable_format.specs.Entries.{value_at}
use Rattle.tantivy_sstable.specs.Opened.{entries_in, entries_told, blocks_told, FetchesBlock, ReadsBlocks}
use Rattle.tantivy_sstable.specs.Finding.{FindsTold}
use Rattle.sstable_index.specs.declared.errors.SstError.{SstError}
use Rattle.documents.specs.Postings.{Postings}
use Rattle.index_file.specs.Header.{width_of, numbers_in}
use Rattle.index_file.specs.IndexFile.{adjoin, is_increasing, is_key, with_numbers, is_posting, postings_of}
use Rattle.index_reading.specs.declared.open.OpenIndex.{OpenIndex}
use Rattle.index_reading.specs.declared.errors.IndexError.{IndexError}
use Rattle.index_reading.specs.declared.errors.IndexError.TheVariants.{Memory, Read, Corrupt, Compressed, Version}
use Rattle.index_reading.specs.Opened.{header_of, postings_in, postings_told, AreNumbers}
use Rattle.index_reading.specs.Errors.{error_of_table}
use Rattle.index_reading.specs.LookUp.{LooksUp, LooksUpTold, GivesPlaces, FetchesParts, FetchesNumbers, ReadsNumbers, blocks_length, numbers_length, places_length}

-- the numbers from one place to another
abbrev pub part_of : List ℕ → Range ℕ → List ℕ
part_of numbers places = take (places.end - places.start) (drop places.start numbers)

-- ---- what stands at a key

pub value_at-numbers : (numbers : List ℕ) (key : Key) (entries : List (Key × Range ℕ)) → value_at key (map (with_numbers numbers) entries) ≡ option_map (part_of numbers) (value_at key entries)
unfolding value_at
value_at-numbers numbers key [] = refl
value_at-numbers numbers key (entry ∷ entries) =
    let more = value_at-numbers numbers key entries in
    elim (is_same key entry.0) as (λ t. (if t then Some (part_of numbers entry.1) else value_at key (map (with_numbers numbers) entries)) ≡ option_map (part_of numbers) (if t then Some entry.1 else value_at key entries))
    [ true ↦ refl | false ↦ more ]

-- a fact about an entry that stands at a key
at-key : {V : Type 0} (fact : V → Type 0) (key : Key) (entry : Key × V) (entries : List (Key × V)) (value : V) → value_at key (entry ∷ entries) ≡ Some value
    → fact entry.1 → (value_at key entries ≡ Some value → fact value) → fact value
unfolding value_at
at-key fact key entry entries value found here more =
    elim (is_same key entry.0) as (λ t. (if t then Some entry.1 else value_at key entries) ≡ Some value → fact value)
    [ true ↦ λ e. subst fact (the_same e) here | false ↦ more ] found
  where
    the_same : Some entry.1 ≡ Some value → entry.1 ≡ value
    the_same e = cc

no-value : {V : Type 0} (key : Key) (value : V) → value_at key [] ≡ Some value → ⊥
unfolding value_at
no-value key value e = cc

-- ---- the places adjoin

reaches : (start end : ℕ) (entries : List (Key × Range ℕ)) → adjoin start end (map (λ entry. entry.1) entries) ≡ true → start ≤ end
unfolding adjoin
reaches start end [] adjoins = let same = eqb-true start end adjoins in omega (arith, same)
reaches start end (entry ∷ entries) adjoins =
    let parts = and_parts (entry.1.start == start) (nat_lt entry.1.start entry.1.end && adjoin entry.1.end end (map (λ entry. entry.1) entries)) adjoins in
    let others = and_parts (nat_lt entry.1.start entry.1.end) (adjoin entry.1.end end (map (λ entry. entry.1) entries)) parts.1 in
    let more = reaches entry.1.end end entries others.1 in
    omega (arith, eqb-true entry.1.start start parts.0, ltb-true entry.1.start entry.1.end others.0, more)

pub places-within : (start end : ℕ) (key : Key) (entries : List (Key × Range ℕ)) (places : Range ℕ) → adjoin start end (map (λ entry. entry.1) entries) ≡ true → value_at key entries ≡ Some places
    → (places.start ≤ places.end) × (places.end ≤ end)
unfolding adjoin
places-within start end key [] places adjoins found = absurd (no-value key places found)
places-within start end key (entry ∷ entries) places adjoins found =
    let parts = and_parts (entry.1.start == start) (nat_lt entry.1.start entry.1.end && adjoin entry.1.end end (map (λ entry. entry.1) entries)) adjoins in
    let others = and_parts (nat_lt entry.1.start entry.1.end) (adjoin entry.1.end end (map (λ entry. entry.1) entries)) parts.1 in
    let low = ltb-true entry.1.start entry.1.end others.0 in
    let high = reaches entry.1.end end entries others.1 in
    let more = places-within entry.1.end end key entries places others.1 in
    at-key (λ (p : Range ℕ). (p.start ≤ p.end) × (p.end ≤ end)) key entry entries places found (omega (arith, low), high) more

-- ---- the numbers are of documents

All-below : (documents : ℕ) (numbers : List ℕ) → list_all (λ number. nat_lt number documents) numbers ≡ true → All (λ number. number < documents) numbers
All-below documents [] all = All-nil (λ number. number < documents)
All-below documents (number ∷ numbers) all =
    let parts = and_parts (nat_lt number documents) (list_all (λ number. nat_lt number documents) numbers) all in
    All-cons (λ number. number < documents) number numbers (ltb-true number documents parts.0) (All-below documents numbers parts.1)

pub numbers-proper : (documents : ℕ) (numbers : List ℕ) (key : Key) (entries : List (Key × Range ℕ)) (places : Range ℕ)
    → list_all (is_posting documents) (map (with_numbers numbers) entries) ≡ true → value_at key entries ≡ Some places → AreNumbers documents (part_of numbers places)
numbers-proper documents numbers key [] places all found = absurd (no-value key places found)
numbers-proper documents numbers key (entry ∷ entries) places all found =
    let here = part_of numbers entry.1 in
    let parts = and_parts (is_posting documents (with_numbers numbers entry)) (list_all (is_posting documents) (map (with_numbers numbers) entries)) all in
    let tests = and_parts (is_key entry.0) (is_increasing here && list_all (λ number. nat_lt number documents) here) parts.0 in
    let rise = and_parts (is_increasing here) (list_all (λ number. nat_lt number documents) here) tests.1 in
    at-key (λ (p : Range ℕ). AreNumbers documents (part_of numbers p)) key entry entries places found
    (record { rising = rise.0; below = All-below documents here rise.1 })
    (numbers-proper documents numbers key entries places parts.1)

-- ---- what an opened index has

-- the entries of its dictionary's table make up its postings
pub record HasEntries (index : OpenIndex) (file : List ℕ) (postings : Postings) : Type 0 where
  pub entries : List (Key × Range ℕ)
  pub told : entries_in range index.dictionary file ≡ Some entries
  pub adjoins : adjoin 0 index.count (map (λ entry. entry.1) entries) ≡ true
  pub proper : list_all (is_posting index.documents) (map (with_numbers (numbers_in (header_of index file))) entries) ≡ true
  pub postings_are : postings.entries ≡ map (with_numbers (numbers_in (header_of index file))) entries

provided-some : {A : Type 0} (b : Bool) (next : Option A) (x : A) → (provided b >>= (λ _. next)) ≡ Some x → (b ≡ true) × (next ≡ Some x)
provided-some true next x e = (refl, e)
provided-some false next x e = absurd (nothing e)
  where
    nothing : None ≡ Some x → ⊥
    nothing e = cc

entries-of : (index : OpenIndex) (file : List ℕ) (postings : Postings) (found : Option (List (Key × Range ℕ))) → entries_in range index.dictionary file ≡ found
    → (found >>= (λ entries. postings_of (header_of index file) entries)) ≡ Some postings → HasEntries index file postings
entries-of index file postings None told e = absurd (nothing e)
  where
    nothing : None ≡ Some postings → ⊥
    nothing e = cc
entries-of index file postings (Some entries) told e =
    let numbers = numbers_in (header_of index file) in
    let made : List (Key × List ℕ) = map (with_numbers numbers) entries in
    let first = provided-some (adjoin 0 index.count (map (λ (entry : Key × Range ℕ). entry.1) entries)) (provided (list_all (is_posting index.documents) made) >>= (λ _. Some (record { documents = index.documents; entries = made }))) postings e in
    let second = provided-some (list_all (is_posting index.documents) made) (Some (record { documents = index.documents; entries = made })) postings first.1 in
    record { entries = entries; told = told; adjoins = first.0; proper = second.0; postings_are = same second.1 }
  where
    same : Some (record { documents = index.documents; entries = map (with_numbers (numbers_in (header_of index file))) entries }) ≡ Some postings
        → postings.entries ≡ map (with_numbers (numbers_in (header_of index file))) entries
    same e = ap (λ (o : Option Postings). unwrap_or (option_map (λ (p : Postings). p.entries) o) []) (sym e)

has-entries : (index : OpenIndex) (file : List ℕ) (postings : Postings) → postings_in index file ≡ Some postings → HasEntries index file postings
unfolding postings_in
has-entries index file postings e = entries-of index file postings (entries_in range index.dictionary file) refl e

-- what stands at the key, by what the dictionary has there
at-postings : (index : OpenIndex) (file : List ℕ) (postings : Postings) (key : Key) (h : HasEntries index file postings)
    → value_at key postings.entries ≡ option_map (part_of (numbers_in (header_of index file))) (value_at key h.entries)
at-postings index file postings key h = ap (value_at key) h.postings_are ∙ value_at-numbers (numbers_in (header_of index file)) key h.entries

-- where the dictionary's entries are told
finds-in : (index : OpenIndex) (file : List ℕ) (postings : Postings) (key : Key) (h : HasEntries index file postings) (result : Result (Option (Range ℕ)) SstError)
    → FindsTold (λ r. r) (entries_in range index.dictionary file) key result → FindsTold (λ r. r) (Some h.entries) key result
finds-in index file postings key h result finds = subst (λ o. FindsTold (λ r. r) o key result) h.told finds

-- a fact about a look-up follows for told postings alone
by-postings : (index : OpenIndex) (contents : Option (List ℕ)) (key : Key) (result : Result (Option (List ℕ)) IndexError)
    → ((file : List ℕ) (postings : Postings) → contents ≡ Some file → HasEntries index file postings → LooksUp postings.entries key result) → LooksUpTold (postings_told index contents) key result
by-postings index None key result all = tt
by-postings index (Some file) key result all = each (postings_in index file) refl
  where
    each : (o : Option Postings) → postings_in index file ≡ o → LooksUpTold o key result
    each None e = tt
    each (Some postings) e = all file postings refl (has-entries index file postings e)

-- the finding of a dictionary, where the contents are told
told-finding : (index : OpenIndex) (contents : Option (List ℕ)) (file : List ℕ) (key : Key) (result : Result (Option (Range ℕ)) SstError) → contents ≡ Some file
    → FindsTold (λ r. r) (entries_told range index.dictionary contents) key result → FindsTold (λ r. r) (entries_in range index.dictionary file) key result
told-finding index contents file key result is finds = subst (λ o. FindsTold (λ r. r) (entries_told range index.dictionary o) key result) is finds

pub looks-none : (index : OpenIndex) (contents : Option (List ℕ)) (key : Key) → FindsTold (λ r. r) (entries_told range index.dictionary contents) key (Ok None)
    → LooksUpTold (postings_told index contents) key (Ok None)
looks-none index contents key finds = by-postings index contents key (Ok None) (λ file postings is h.
    let found = finds-in index file postings key h (Ok None) (told-finding index contents file key (Ok None) is finds) in
    ap (option_map (part_of (numbers_in (header_of index file)))) found ∙ sym (at-postings index file postings key h))

pub looks-error : (index : OpenIndex) (contents : Option (List ℕ)) (key : Key) (start : ℕ) (e : SstError) (error : IndexError) → error ≡ error_of_table start e
    → FindsTold (λ r. r) (entries_told range index.dictionary contents) key (Err e) → LooksUpTold (postings_told index contents) key (Err error)
looks-error index contents key start e error is_error finds = by-postings index contents key (Err error) (λ file postings is h.
    let found = finds-in index file postings key h (Err e) (told-finding index contents file key (Err e) is finds) in
    ⊎_elim (λ memory. inl (is_error ∙ ap (error_of_table start) memory)) (λ read. inr (is_error ∙ ap (error_of_table start) read)) found)

-- what was given of the places, where the contents are told
told-given : (index : OpenIndex) (contents : Option (List ℕ)) (file : List ℕ) (places : Range ℕ) (result : Result (List ℕ) IndexError) → contents ≡ Some file
    → IfSome contents (GivesPlaces index places.start places.end result) → GivesPlaces index places.start places.end result file
told-given index contents file places result is given = subst (λ o. IfSome o (GivesPlaces index places.start places.end result)) is given

pub looks-found : (index : OpenIndex) (contents : Option (List ℕ)) (key : Key) (places : Range ℕ) (numbers : List ℕ) → FindsTold (λ r. r) (entries_told range index.dictionary contents) key (Ok (Some places))
    → IfSome contents (GivesPlaces index places.start places.end (Ok numbers)) → LooksUpTold (postings_told index contents) key (Ok (Some numbers))
looks-found index contents key places numbers finds given = by-postings index contents key (Ok (Some numbers)) (λ file postings is h.
    let found = finds-in index file postings key h (Ok (Some places)) (told-finding index contents file key (Ok (Some places)) is finds) in
    ap Some (told-given index contents file places (Ok numbers) is given).0
    ∙ ap (option_map (part_of (numbers_in (header_of index file)))) found ∙ sym (at-postings index file postings key h))

-- the places that stand at a key give numbers
gives-error : (index : OpenIndex) (file : List ℕ) (postings : Postings) (key : Key) (places : Range ℕ) (e : IndexError)
    → (h : HasEntries index file postings) → Some places ≡ value_at key h.entries → GivesPlaces index places.start places.end (Err e) file → (e ≡ Memory) ⊎ (e ≡ Read)
gives-error index file postings key places Memory h found given = inl refl
gives-error index file postings key places Read h found given = inr refl
gives-error index file postings key places Corrupt h found given =
    let numbers = numbers_in (header_of index file) in
    let within = places-within 0 index.count key h.entries places h.adjoins (sym found) in
    let long : length numbers ≡ index.count = length-unpacked_from 0 index.count (width_of index.documents) (header_of index file).packed in
    absurd (given within.0 (omega (arith, within.1, long)) (numbers-proper index.documents numbers key h.entries places h.proper (sym found)))
gives-error index file postings key places (Compressed place) h found given = absurd given
gives-error index file postings key places (Version version) h found given = absurd given

pub looks-refused : (index : OpenIndex) (contents : Option (List ℕ)) (key : Key) (places : Range ℕ) (e : IndexError) → FindsTold (λ r. r) (entries_told range index.dictionary contents) key (Ok (Some places))
    → IfSome contents (GivesPlaces index places.start places.end (Err e)) → LooksUpTold (postings_told index contents) key (Err e)
looks-refused index contents key places e finds given = by-postings index contents key (Err e) (λ file postings is h.
    let found = finds-in index file postings key h (Ok (Some places)) (told-finding index contents file key (Ok (Some places)) is finds) in
    gives-error index file postings key places e h found (told-given index contents file places (Err e) is given))

-- ---- how many bytes are fetched

key-length : (index : OpenIndex) (file : List ℕ) (postings : Postings) (key : Key) (places : Range ℕ) → (h : HasEntries index file postings) → Some places ≡ value_at key h.entries
    → length (unwrap_or (value_at key postings.entries) []) ≡ places.end - places.start
key-length index file postings key places h found =
    let numbers = numbers_in (header_of index file) in
    let within = places-within 0 index.count key h.entries places h.adjoins (sym found) in
    let long : length numbers ≡ index.count = length-unpacked_from 0 index.count (width_of index.documents) (header_of index file).packed in
    ap (λ o. length (unwrap_or o [])) (at-postings index file postings key h ∙ ap (option_map (part_of numbers)) (sym found))
    ∙ length-take (places.end - places.start) (drop places.start numbers) ∙ omega (arith, length-drop places.start numbers, long, within.0, within.1)

block-alone : (index : OpenIndex) (blocks : Option (List (Block (Range ℕ)))) (postings : Option Postings) (key : Key) (before now : FileState) → FetchesBlock blocks before.fetched now.fetched
    → now.fetched ≤ before.fetched + blocks_length index → FetchesParts index blocks postings key before now
block-alone index None None key before now block all = omega (arith, all)
block-alone index None (Some postings) key before now block all = omega (arith, all)
block-alone index (Some blocks) None key before now block all = omega (arith, all)
block-alone index (Some blocks) (Some postings) key before now block all = omega (arith, block)

pub fetches-block : (index : OpenIndex) (key : Key) (before now : FileState) (P : Type 0) → ReadsBlocks range index.dictionary before now P → FetchesNumbers index key before now
fetches-block index key before now P reads =
    block-alone index (blocks_told range index.dictionary before.contents) (postings_told index before.contents) key before now reads.block reads.reads.fetched

block-and-part : (index : OpenIndex) (blocks : Option (List (Block (Range ℕ)))) (postings : Option Postings) (key : Key) (before middle now : FileState) (count : ℕ) (P : Type 0) → FetchesBlock blocks before.fetched middle.fetched
    → middle.fetched ≤ before.fetched + blocks_length index → ReadsNumbers index count middle now P → ((found : Postings) → postings ≡ Some found → places_length index count ≡ numbers_length index found key)
    → FetchesParts index blocks postings key before now
block-and-part index None None key before middle now count P block all part is = omega (arith, all, part.reads.fetched)
block-and-part index None (Some postings) key before middle now count P block all part is = omega (arith, all, part.reads.fetched)
block-and-part index (Some blocks) None key before middle now count P block all part is = omega (arith, all, part.reads.fetched)
block-and-part index (Some blocks) (Some postings) key before middle now count P block all part is = omega (arith, block, part.numbers, is postings refl)

pub fetches-both : (index : OpenIndex) (key : Key) (places : Range ℕ) (before middle now : FileState) (P Q : Type 0) → FindsTold (λ r. r) (entries_told range index.dictionary before.contents) key (Ok (Some places))
    → ReadsBlocks range index.dictionary before middle P → ReadsNumbers index (places.end - places.start) middle now Q → FetchesNumbers index key before now
fetches-both index key places before middle now P Q finds reads part =
    block-and-part index (blocks_told range index.dictionary before.contents) (postings_told index before.contents) key before middle now (places.end - places.start) Q reads.block reads.reads.fetched part (each before.contents finds)
  where
    each : (contents : Option (List ℕ)) → FindsTold (λ r. r) (entries_told range index.dictionary contents) key (Ok (Some places)) → (found : Postings) → postings_told index contents ≡ Some found
        → places_length index (places.end - places.start) ≡ numbers_length index found key
    each None finds found is = absurd (nothing is)
      where
        nothing : None ≡ Some found → ⊥
        nothing e = cc
    each (Some file) finds found is =
        let h = has-entries index file found is in
        let at = finds-in index file found key h (Ok (Some places)) finds in
        ap (places_length index) (sym (key-length index file found key places h at))
