-- What an index part of version 3 tells, by its map and its store.
use Rattle.std.proofs.Common.{◌≡◌, ◌≢◌, ℕ, ◌-◌, ◌<◌, ◌≤◌, List, [], ◌∷◌, length, map, take, drop, Bool, true, false, Option, Some, None, refl, ap, sym, ◌∙◌, arith}
use Rattle.std.specs.Prelude.{◌==◌, nat_le, if◌then◌else◌}
use Rattle.std.specs.List.{zip}
use Rattle.std.specs.Int.{w64, from_le_bytes}
use Rattle.std.proofs.lemmas.Bool.{lt-leb, ne_eqb}
use Rattle.owned_bytes.specs.Front.{◌>>=◌, provided, number_at, bytes_at}
use Rattle.owned_bytes.specs.Keys.{Key, is_same}
use Rattle.owned_bytes.proofs.Pieces.{bytes_at-front}
use Rattle.fst_map.specs.Map.{map_of}
use Rattle.sstable_values.specs.Codec.{Address}
use Rattle.sstable_format.specs.Store.{store_of, numbers_from}
use Rattle.sstable_format.specs.Index.{IndexEntry, Index, AtMostOneBlock, Entries, at_end, map_and_store_of, index_of_version}
unfoldable use Rattle.sstable_format.specs.Index.{index_v3_of}
use Rattle.sstable_format.proofs.Ends.{at_end-none, number_at_end}
use Rattle.sstable_format.proofs.IndexParts.{index-v3}
use Rattle.block_addresses.specs.Opened.{passing, can_index}
use Rattle.sstable_index.specs.Building.{addresses_in}
use Rattle.sstable_index.specs.Usable.{can_have, is_usable, usable_index, usable_entries}
use Rattle.std.proofs.lemmas.List.{length-map}
use Rattle.sstable_index.proofs.InOrder.{addresses-zip, numbered-count}

-- the entries of a map and a store, where they are tied
abbrev pub tied : Option (List (Key × ℕ)) → Option (List Address) → Option (List IndexEntry)
tied numbered addresses = numbered >>= (λ numbered_keys. addresses >>= (λ addresses. provided (is_same (map (λ numbered. numbered.1) numbered_keys) (numbers_from 0 (length addresses))) >>= (λ _. Some (zip (map (λ numbered. numbered.0) numbered_keys) addresses))))

tied-passing : (numbered : Option (List (Key × ℕ))) (addresses : Option (List Address)) → passing can_have (tied numbered addresses) ≡ tied numbered (passing can_index addresses)
tied-passing None addresses = refl
tied-passing (Some numbered) None = refl
tied-passing (Some numbered) (Some addresses) = by (is_same (map (λ (n : Key × ℕ). n.1) numbered) (numbers_from 0 (length addresses))) refl
  where
    here : List IndexEntry
    here = zip (map (λ (n : Key × ℕ). n.0) numbered) addresses

    when : Bool → Option (List IndexEntry)
    when t = provided t >>= (λ _. Some (zip (map (λ (n : Key × ℕ). n.0) numbered) addresses))

    tested : Bool → Option (List IndexEntry)
    tested c = provided c >>= (λ _. Some addresses) >>= (λ found. provided (is_same (map (λ (n : Key × ℕ). n.1) numbered) (numbers_from 0 (length found))) >>= (λ _. Some (zip (map (λ (n : Key × ℕ). n.0) numbered) found)))

    none : (c : Bool) → is_same (map (λ (n : Key × ℕ). n.1) numbered) (numbers_from 0 (length addresses)) ≡ false → None ≡ tested c
    none true e = ap when (sym e)
    none false e = refl

    some : (c : Bool) → is_same (map (λ (n : Key × ℕ). n.1) numbered) (numbers_from 0 (length addresses)) ≡ true → (provided c >>= (λ _. Some here)) ≡ tested c
    some true e = ap when (sym e)
    some false e = refl

    by : (t : Bool) → is_same (map (λ (n : Key × ℕ). n.1) numbered) (numbers_from 0 (length addresses)) ≡ t → passing can_have (tied (Some numbered) (Some addresses)) ≡ tied (Some numbered) (passing can_index (Some addresses))
    by true e =
        ap (λ t. passing can_have (when t)) e
        ∙ ap (λ places. provided (can_index places) >>= (λ _. Some here)) (addresses-zip (map (λ (n : Key × ℕ). n.0) numbered) addresses (numbered-count numbered addresses e))
        ∙ some (can_index addresses) e
    by false e = ap (λ t. passing can_have (when t)) e ∙ none (can_index addresses) e

-- ---- a map and a store

-- they lie one behind the other in the bytes
pub entries-are : (map_length : ℕ) (bytes : List ℕ) → map_length ≤ length bytes
    → usable_entries map_length bytes ≡ tied (map_of (take map_length bytes)) (passing can_index (store_of (drop map_length bytes)))
entries-are map_length bytes fits =
    ap (λ o. passing can_have (o >>= (λ (parts : List ℕ × List ℕ). tied (map_of parts.0) (store_of parts.1)))) (bytes_at-front map_length bytes fits)
    ∙ tied-passing (map_of (take map_length bytes)) (store_of (drop map_length bytes))

pub entries-cut : (map_length : ℕ) (bytes : List ℕ) → length bytes < map_length → usable_entries map_length bytes ≡ None
entries-cut map_length bytes cut =
    ap (λ t. passing can_have (provided t >>= (λ _. Some (take map_length bytes, drop map_length bytes)) >>= (λ (parts : List ℕ × List ℕ). tied (map_of parts.0) (store_of parts.1)))) (lt-leb map_length (length bytes) cut)

pub no-map : (addresses : Option (List Address)) (numbered : Option (List (Key × ℕ))) → numbered ≡ None → tied numbered addresses ≡ None
no-map addresses numbered none = ap (λ n. tied n addresses) none

pub no-store : (numbered : Option (List (Key × ℕ))) (addresses : Option (List Address)) → addresses ≡ None → tied numbered addresses ≡ None
no-store None addresses none = refl
no-store (Some numbered) addresses none = ap (λ places. tied (Some numbered) places) none

-- a map and a store that were opened
pub opened-are : (numbered : List (Key × ℕ)) (addresses : List Address) (found : Option (List (Key × ℕ))) (store : Option (List Address)) (t : Bool) → found ≡ Some numbered → store ≡ Some addresses
    → is_same (map (λ entry. entry.1) numbered) (numbers_from 0 (length addresses)) ≡ t → tied found store ≡ (provided t >>= (λ _. Some (zip (map (λ entry. entry.0) numbered) addresses)))
opened-are numbered addresses found store t map_is store_is same =
    ap (λ n. tied n store) map_is ∙ ap (λ places. tied (Some numbered) places) store_is ∙ ap (λ b. provided b >>= (λ _. Some (zip (map (λ (n : Key × ℕ). n.0) numbered) addresses))) same

-- so many values are not 0, 1, 2 and so on up to another count
pub other-count : (numbered : List (Key × ℕ)) (addresses : List Address) → length numbered ≢ length addresses → is_same (map (λ entry. entry.1) numbered) (numbers_from 0 (length addresses)) ≡ false
other-count numbered addresses apart = by (is_same (map (λ (n : Key × ℕ). n.1) numbered) (numbers_from 0 (length addresses))) refl
  where
    by : (t : Bool) → is_same (map (λ (n : Key × ℕ). n.1) numbered) (numbers_from 0 (length addresses)) ≡ t → t ≡ false
    by true e = absurd (apart (sym (length-map numbered (λ (n : Key × ℕ). n.0)) ∙ numbered-count numbered addresses e))
    by false e = refl

-- ---- the index part

as-index : (o : Option (List IndexEntry)) → passing is_usable (o >>= (λ entries. Some (Entries entries))) ≡ (passing can_have o >>= (λ entries. Some (Entries entries)))
as-index None = refl
as-index (Some entries) = by (can_have entries)
  where
    by : (t : Bool) → (provided t >>= (λ _. Some (Entries entries))) ≡ (provided t >>= (λ _. Some entries) >>= (λ found. Some (Entries found)))
    by true = refl
    by false = refl

abbrev index_with : ℕ × List ℕ → Option Index
index_with stored = if stored.0 == 0 then Some AtMostOneBlock else (map_and_store_of stored.0 stored.1 >>= (λ entries. Some (Entries entries)))

abbrev pub last_number : List ℕ → ℕ
last_number part = from_le_bytes w64 (drop (length part - 8) part)

v3-is : (version : ℕ) (part : List ℕ) → version ≡ 3 → 8 ≤ length part → index_of_version version part ≡ index_with (last_number part, take (length part - 8) part)
unfolding index_v3_of
v3-is version part three long = index-v3 version part three ∙ ap (λ o. o >>= index_with) (number_at_end w64 part long)

pub v3-short : (version : ℕ) (part : List ℕ) → version ≡ 3 → length part < 8 → usable_index version part ≡ None
unfolding index_v3_of
v3-short version part three short = ap (passing is_usable) (index-v3 version part three ∙ ap (λ o. o >>= index_with) (at_end-none 8 (number_at w64) part short))

pub v3-one_block : (version : ℕ) (part : List ℕ) (n : ℕ) → version ≡ 3 → 8 ≤ length part → n ≡ last_number part → n ≡ 0 → usable_index version part ≡ Some AtMostOneBlock
v3-one_block version part n three long is at_0 =
    ap (passing is_usable) (v3-is version part three long ∙ ap (λ m. index_with (m, take (length part - 8) part)) (sym is ∙ at_0))

pub v3-entries : (version : ℕ) (part bytes : List ℕ) (n : ℕ) → version ≡ 3 → 8 ≤ length part → n ≡ last_number part → n ≢ 0 → bytes ≡ take (length part - 8) part
    → usable_index version part ≡ (usable_entries n bytes >>= (λ entries. Some (Entries entries)))
v3-entries version part bytes n three long is some front =
    ap (passing is_usable) (v3-is version part three long ∙ ap (λ m. index_with (m, take (length part - 8) part)) (sym is) ∙ ap (λ bs. index_with (n, bs)) (sym front)
    ∙ ap (λ t. if t then Some AtMostOneBlock else (map_and_store_of n bytes >>= (λ entries. Some (Entries entries)))) (ne_eqb n 0 some))
    ∙ as-index (map_and_store_of n bytes)
