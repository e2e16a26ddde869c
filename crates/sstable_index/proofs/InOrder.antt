-- The entries of an index that can be used are in order.
use Rattle.std.proofs.Common.{◌≡◌, ℕ, List, [], ◌∷◌, length, map, take, Bool, true, false, Option, Some, None, refl, ap, sym, subst, ◌∙◌, arith}
use Rattle.std.specs.Prelude.{◌==◌, ◌||◌, bytes_eq, if◌then◌else◌}
use Rattle.std.specs.List.{zip}
use Rattle.std.specs.Int.{w64}
use Rattle.std.specs.Ordering.{nat_cmp, is_eq}
use Rattle.std.specs.Cmp.Lexicographic.{slice_cmp, bytes_decides}
use Rattle.std.specs.declared.cmp.Ordering.{Ordering}
use Rattle.std.specs.declared.cmp.Ordering.TheVariants.{Less, Equal, Greater}
use Rattle.std.proofs.lemmas.List.{length-map}
use Rattle.owned_bytes.specs.Front.{◌>>=◌, provided, number_at, bytes_at, counted}
use Rattle.owned_bytes.specs.Keys.{Key, is_equal, is_same, is_rising}
use Rattle.owned_bytes.proofs.Pieces.{bind_some, some_is, provided-true}
use Rattle.fst_map.specs.Map.{end_and_value_at, keys_from}
unfoldable use Rattle.fst_map.specs.Map.{map_of}
use Rattle.sstable_values.specs.Codec.{Address, index}
use Rattle.sstable_blocks.specs.Run.{Run, whole_run_of, entries_of}
unfoldable use Rattle.sstable_blocks.specs.Run.{run_of}
use Rattle.sstable_blocks.specs.Writing.{keys_in}
use Rattle.sstable_format.specs.Store.{store_of, numbers_from}
use Rattle.sstable_format.specs.Index.{IndexEntry, Index, AtMostOneBlock, Entries, is_zeros, at_end, map_and_store_of, index_of_version}
unfoldable use Rattle.sstable_format.specs.Index.{index_v2_of, index_v3_of}
use Rattle.sstable_format.proofs.RisingRuns.{run_of-rising}
use Rattle.sstable_index.specs.Building.{addresses_in}
use Rattle.sstable_index.specs.Usable.{can_have, is_usable, usable_index, AreInOrder}
use Rattle.sstable_index.specs.Laws.{UsableIndexesAreInOrder}
use Rattle.sstable_index.proofs.PartLaws.{length-numbers}
use Rattle.std.proofs.lemmas.Map.Text.{is_eq-slice_cmp}

entries-are : (a b : List IndexEntry) → Entries a ≡ Entries b → a ≡ b
entries-are a b e = cc

-- ---- zipped lists

pub keys-zip : (keys : List Key) (addresses : List Address) → length keys ≡ length addresses → keys_in (zip keys addresses) ≡ keys
keys-zip [] addresses e = refl
keys-zip (key ∷ keys) [] e = absurd (omega (arith, e))
keys-zip (key ∷ keys) (address ∷ addresses) e = ap (λ rest. key ∷ rest) (keys-zip keys addresses (omega (arith, e)))

pub addresses-zip : (keys : List Key) (addresses : List Address) → length keys ≡ length addresses → addresses_in (zip keys addresses) ≡ addresses
addresses-zip [] [] e = refl
addresses-zip [] (address ∷ addresses) e = absurd (omega (arith, e))
addresses-zip (key ∷ keys) [] e = absurd (omega (arith, e))
addresses-zip (key ∷ keys) (address ∷ addresses) e = ap (λ rest. address ∷ rest) (addresses-zip keys addresses (omega (arith, e)))

-- ---- version 2

v2-rising : (part : List ℕ) (entries : List IndexEntry) → index_v2_of part ≡ Some (Entries entries) → is_rising (keys_in entries) ≡ true
unfolding index_v2_of run_of
v2-rising part entries e =
    let run = bind_some (whole_run_of index part) (λ run. provided (is_zeros 0 run.rest || is_zeros 4 run.rest) >>= (λ _. Some (Entries (entries_of run.blocks)))) (Entries entries) e in
    let test = bind_some (provided (is_zeros 0 run.0.rest || is_zeros 4 run.0.rest)) (λ _. Some (Entries (entries_of run.0.blocks))) (Entries entries) run.2 in
    let same : entries_of run.0.blocks ≡ entries = entries-are _ entries (some_is _ _ test.2) in
    run_of-rising index part entries (ap (λ o. o >>= (λ (found : Run Address). Some (entries_of found.blocks))) run.1 ∙ ap Some same)

-- ---- version 3

pub map-rising : (bytes : List ℕ) (numbered : List (Key × ℕ)) → map_of bytes ≡ Some numbered → is_rising (map (λ entry. entry.0) numbered) ≡ true
unfolding map_of
map-rising bytes numbered e =
    let count = bind_some (number_at w64 bytes) (λ count. counted count.0 end_and_value_at count.1 >>= (λ ends. keys_from 0 ends.0 ends.1 >>= (λ entries. provided (is_rising (map (λ entry. entry.0) entries)) >>= (λ _. Some entries)))) numbered e in
    let ends = bind_some (counted count.0.0 end_and_value_at count.0.1) (λ ends. keys_from 0 ends.0 ends.1 >>= (λ entries. provided (is_rising (map (λ entry. entry.0) entries)) >>= (λ _. Some entries))) numbered count.2 in
    let found = bind_some (keys_from 0 ends.0.0 ends.0.1) (λ entries. provided (is_rising (map (λ entry. entry.0) entries)) >>= (λ _. Some entries)) numbered ends.2 in
    let test = bind_some (provided (is_rising (map (λ (entry : Key × ℕ). entry.0) found.0))) (λ _. Some found.0) numbered found.2 in
    ap (λ es. is_rising (map (λ (entry : Key × ℕ). entry.0) es)) (sym (some_is found.0 numbered test.2)) ∙ provided-true _ _ test.1

equal-eq : (o : Ordering) → is_equal o ≡ is_eq o
equal-eq Less = refl
equal-eq Equal = refl
equal-eq Greater = refl

pub same-is : (a b : List ℕ) → is_same a b ≡ true → a ≡ b
same-is a b h = (bytes_decides a b).0 (sym (equal-eq (slice_cmp nat_cmp a b) ∙ is_eq-slice_cmp a b) ∙ h)

-- the values of a map are so many as there are addresses
pub numbered-count : (numbered : List (Key × ℕ)) (addresses : List Address) → is_same (map (λ entry. entry.1) numbered) (numbers_from 0 (length addresses)) ≡ true
    → length (map (λ (entry : Key × ℕ). entry.0) numbered) ≡ length addresses
numbered-count numbered addresses same =
    length-map numbered (λ (entry : Key × ℕ). entry.0) ∙ sym (length-map numbered (λ (entry : Key × ℕ). entry.1))
    ∙ ap length (same-is (map (λ (entry : Key × ℕ). entry.1) numbered) (numbers_from 0 (length addresses)) same) ∙ length-numbers 0 (length addresses)

both-rising : (map_length : ℕ) (bytes : List ℕ) (entries : List IndexEntry) → map_and_store_of map_length bytes ≡ Some entries → is_rising (keys_in entries) ≡ true
both-rising map_length bytes entries e =
    let parts = bind_some (bytes_at map_length bytes) (λ parts. map_of parts.0 >>= (λ numbered_keys. store_of parts.1 >>= (λ addresses. provided (is_same (map (λ numbered. numbered.1) numbered_keys) (numbers_from 0 (length addresses))) >>= (λ _. Some (zip (map (λ numbered. numbered.0) numbered_keys) addresses))))) entries e in
    let numbered = bind_some (map_of parts.0.0) (λ numbered_keys. store_of parts.0.1 >>= (λ addresses. provided (is_same (map (λ numbered. numbered.1) numbered_keys) (numbers_from 0 (length addresses))) >>= (λ _. Some (zip (map (λ numbered. numbered.0) numbered_keys) addresses)))) entries parts.2 in
    let addresses = bind_some (store_of parts.0.1) (λ addresses. provided (is_same (map (λ (n : Key × ℕ). n.1) numbered.0) (numbers_from 0 (length addresses))) >>= (λ _. Some (zip (map (λ (n : Key × ℕ). n.0) numbered.0) addresses))) entries numbered.2 in
    let test = bind_some (provided (is_same (map (λ (n : Key × ℕ). n.1) numbered.0) (numbers_from 0 (length addresses.0)))) (λ _. Some (zip (map (λ (n : Key × ℕ). n.0) numbered.0) addresses.0)) entries addresses.2 in
    ap (λ es. is_rising (keys_in es)) (sym (some_is _ entries test.2))
    ∙ ap is_rising (keys-zip (map (λ (n : Key × ℕ). n.0) numbered.0) addresses.0 (numbered-count numbered.0 addresses.0 (provided-true _ _ test.1)))
    ∙ map-rising parts.0.0 numbered.0 numbered.1

abbrev index_with : ℕ × List ℕ → Option Index
index_with stored = if stored.0 == 0 then Some AtMostOneBlock else (map_and_store_of stored.0 stored.1 >>= (λ entries. Some (Entries entries)))

v3-rising : (part : List ℕ) (entries : List IndexEntry) → index_v3_of part ≡ Some (Entries entries) → is_rising (keys_in entries) ≡ true
unfolding index_v3_of
v3-rising part entries e =
    let stored = bind_some (at_end 8 (number_at w64) part) index_with (Entries entries) e in
    by stored.0 (stored.0.0 == 0) stored.2
  where
    by : (stored : ℕ × List ℕ) (t : Bool) → (if t then Some AtMostOneBlock else (map_and_store_of stored.0 stored.1 >>= (λ entries. Some (Entries entries)))) ≡ Some (Entries entries) → is_rising (keys_in entries) ≡ true
    by stored true h = absurd (let none : AtMostOneBlock ≡ Entries entries = some_is _ _ h in cc)
    by stored false h =
        let found = bind_some (map_and_store_of stored.0 stored.1) (λ entries. Some (Entries entries)) (Entries entries) h in
        both-rising stored.0 stored.1 entries (found.1 ∙ ap Some (entries-are found.0 entries (some_is _ _ found.2)))

version-rising : (version : ℕ) (part : List ℕ) (entries : List IndexEntry) → index_of_version version part ≡ Some (Entries entries) → is_rising (keys_in entries) ≡ true
version-rising version part entries e = by (version == 2) (version == 3) e
  where
    by : (two three : Bool) → (if two then index_v2_of part else (if three then index_v3_of part else None)) ≡ Some (Entries entries) → is_rising (keys_in entries) ≡ true
    by true three h = v2-rising part entries h
    by false true h = v3-rising part entries h
    by false false h = absurd cc

pub in-order : UsableIndexesAreInOrder
in-order version part entries e =
    let found = bind_some (index_of_version version part) (λ x. provided (is_usable x) >>= (λ _. Some x)) (Entries entries) e in
    let test = bind_some (provided (is_usable found.0)) (λ _. Some found.0) (Entries entries) found.2 in
    let same : found.0 ≡ Entries entries = some_is _ _ test.2 in
    record {
      keys = version-rising version part entries (found.1 ∙ ap Some same);
      addresses = ap is_usable (sym same) ∙ provided-true _ _ test.1;
    }
