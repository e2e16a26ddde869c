-- An index part of version 3 that was written is read again.
use Rattle.std.proofs.Common.{◌≡◌, ℕ, zero, suc, ◌+◌, ◌-◌, ◌^◌, ◌<◌, List, [], ◌∷◌, ◌++◌, length, map, take, drop, get_or, Some, true, refl, ap, sym, ◌∙◌, arith, length-append, append_assoc, append-nil, ◌*◌}
use Rattle.std.specs.Int.{w64, to_le_bytes}
use Rattle.std.specs.List.{flat_map, zip}
use Rattle.std.specs.Prelude.{◌==◌, if◌then◌else◌}
use Rattle.std.specs.Ordering.{nat_cmp, ordering_then}
use Rattle.std.specs.Cmp.{nat_cmp_is}
use Rattle.std.specs.Cmp.Lexicographic.{slice_cmp}
use Rattle.std.specs.declared.cmp.Ordering.TheVariants.{Equal}
use Rattle.std.proofs.lemmas.Bool.{le-leb, ne_eqb}
use Rattle.std.proofs.lemmas.List.{drop_all, drop_more, length-map}
use Rattle.std.proofs.Math.Seq.{take-append_seam, drop-append_seam}
use Rattle.owned_bytes.specs.Front.{◌>>=◌, provided, number_at, bytes_at}
unfoldable use Rattle.owned_bytes.specs.Front.{counted}
use Rattle.owned_bytes.specs.Keys.{Key, is_equal, is_same, is_rising}
use Rattle.owned_bytes.proofs.Pieces.{bytes_at-again}
use Rattle.fst_map.specs.Map.{end_and_value_at}
unfoldable use Rattle.fst_map.specs.Map.{keys_from, map_of}
use Rattle.fst_map.proofs.Fronts.{number-again}
use Rattle.sstable_blocks.specs.Writing.{keys_in}
use Rattle.sstable_format.specs.Store.{store_of}
unfoldable use Rattle.sstable_format.specs.Store.{numbers_from}
use Rattle.sstable_format.specs.Index.{IndexEntry, Entries, AtMostOneBlock, at_end, map_and_store_of}
unfoldable use Rattle.sstable_format.specs.Index.{index_v3_of}
use Rattle.sstable_format.proofs.Ends.{at_end-found}
use Rattle.block_addresses.specs.Written.{store_bytes}
use Rattle.sstable_index.specs.Building.{end_of, map_row, map_bytes, map_and_store, addresses_in, blocks_at, are_rising}
use Rattle.sstable_index.proofs.Builds.{area_of, zip-again}
use Rattle.sstable_index.proofs.KeyPlaces.{end-step, end-within}

same-self : (xs : List ℕ) → is_same xs xs ≡ true
same-self [] = refl
same-self (x ∷ xs) = ap (λ o. is_equal (ordering_then o (slice_cmp nat_cmp xs xs))) (sym (nat_cmp_is x x Equal refl)) ∙ same-self xs

abbrev row_of : List Key → ℕ → ℕ × ℕ
row_of keys i = (end_of keys i, i)

row-again : (keys : List Key) (i : ℕ) (rest : List ℕ) → end_of keys i < 2 ^ 64 → i < 2 ^ 64 → end_and_value_at (map_row keys i ++ rest) ≡ Some (row_of keys i, rest)
row-again keys i rest ends small =
    ap end_and_value_at (append_assoc (to_le_bytes w64 (end_of keys i)) (to_le_bytes w64 i) rest)
    ∙ ap (λ o. o >>= (λ (end : ℕ × List ℕ). number_at w64 end.1 >>= (λ value. Some ((end.0, value.0), value.1)))) (number-again (end_of keys i) (to_le_bytes w64 i ++ rest) ends)
    ∙ ap (λ o. o >>= (λ (value : ℕ × List ℕ). Some ((end_of keys i, value.0), value.1))) (number-again i rest small)

rows-again : (keys : List Key) (i n : ℕ) (rest : List ℕ) → length (area_of keys) < 2 ^ 64 → i + n < 2 ^ 64
    → counted n end_and_value_at (flat_map (map_row keys) (numbers_from i n) ++ rest) ≡ Some (map (row_of keys) (numbers_from i n), rest)
unfolding counted numbers_from
rows-again keys i zero rest short small = refl
rows-again keys i (suc n) rest short small =
    let others = flat_map (map_row keys) (numbers_from (i + 1) n) in
    ap (counted (suc n) end_and_value_at) (append_assoc (map_row keys i) others rest)
    ∙ ap (λ o. o >>= (λ (first : (ℕ × ℕ) × List ℕ). counted n end_and_value_at first.1 >>= (λ others. Some (first.0 ∷ others.0, others.1)))) (row-again keys i (others ++ rest) (omega (arith, short, end-within keys (i + 1))) (omega (arith, small)))
    ∙ ap (λ o. o >>= (λ (others : List (ℕ × ℕ) × List ℕ). Some (row_of keys i ∷ others.0, others.1))) (rows-again keys (i + 1) n rest short (omega (arith, small)))

keys-again : (keys : List Key) (i n : ℕ) → i + n ≡ length keys
    → keys_from (length (area_of (take i keys))) (map (row_of keys) (numbers_from i n)) (area_of (drop i keys)) ≡ Some (zip (drop i keys) (numbers_from i n))
unfolding keys_from numbers_from
keys-again keys i zero count =
    let none : drop i keys ≡ [] = drop_all i keys (omega (arith, count)) in
    ap (λ ks. keys_from (length (area_of (take i keys))) [] (area_of ks)) none ∙ ap (λ ks. Some (zip ks [])) (sym none)
keys-again keys i (suc n) count =
    let within : i < length keys = omega (arith, count) in
    let key = get_or keys i [] in
    let start = length (area_of (take i keys)) in
    let more = drop_more keys i [] within in
    let step : end_of keys i ≡ start + length key = end-step keys i within in
    let size : end_of keys i - start ≡ length key = omega (arith, step) in
    let ends = map (row_of keys) (numbers_from (i + 1) n) in
    let left = area_of (drop (i + 1) keys) in
    ap (λ ks. keys_from start (row_of keys i ∷ ends) (area_of ks)) more
    ∙ ap (λ t. provided t >>= (λ _. bytes_at (end_of keys i - start) (key ++ left) >>= (λ found. keys_from (end_of keys i) ends found.1 >>= (λ others. Some ((found.0, i) ∷ others))))) (le-leb start (end_of keys i) (omega (arith, step)))
    ∙ ap (λ m. bytes_at m (key ++ left) >>= (λ found. keys_from (end_of keys i) ends found.1 >>= (λ others. Some ((found.0, i) ∷ others)))) size
    ∙ ap (λ o. o >>= (λ (found : List ℕ × List ℕ). keys_from (end_of keys i) ends found.1 >>= (λ others. Some ((found.0, i) ∷ others)))) (bytes_at-again key left)
    ∙ ap (λ o. o >>= (λ others. Some ((key, i) ∷ others))) (keys-again keys (i + 1) n (omega (arith, count)))
    ∙ ap (λ ks. Some (zip ks (i ∷ numbers_from (i + 1) n))) (sym more)

pub length-numbers : (i n : ℕ) → length (numbers_from i n) ≡ n
unfolding numbers_from
length-numbers i zero = refl
length-numbers i (suc n) = ap suc (length-numbers (i + 1) n)

firsts : (keys : List Key) (numbers : List ℕ) → length keys ≡ length numbers → map (λ entry. entry.0) (zip keys numbers) ≡ keys
firsts [] numbers same = refl
firsts (key ∷ keys) [] same = absurd (omega (arith, same))
firsts (key ∷ keys) (n ∷ numbers) same = ap (λ ks. key ∷ ks) (firsts keys numbers (omega (arith, same)))

seconds : (keys : List Key) (numbers : List ℕ) → length keys ≡ length numbers → map (λ entry. entry.1) (zip keys numbers) ≡ numbers
seconds [] [] same = refl
seconds [] (n ∷ numbers) same = absurd (omega (arith, same))
seconds (key ∷ keys) [] same = absurd (omega (arith, same))
seconds (key ∷ keys) (n ∷ numbers) same = ap (λ ns. n ∷ ns) (seconds keys numbers (omega (arith, same)))

rows_length : (keys : List Key) (i n : ℕ) → length (flat_map (map_row keys) (numbers_from i n)) ≡ 16 * n
unfolding numbers_from
rows_length keys i zero = refl
rows_length keys i (suc n) = omega (arith, length-append (map_row keys i) (flat_map (map_row keys) (numbers_from (i + 1) n)), rows_length keys (i + 1) n)

pub map_length : (keys : List Key) → length (map_bytes keys) ≡ 8 + 16 * length keys + length (area_of keys)
map_length keys = omega (arith, length-append (flat_map (map_row keys) (numbers_from 0 (length keys))) (area_of keys), rows_length keys 0 (length keys))

abbrev numbered : List Key → List (Key × ℕ)
numbered keys = zip keys (numbers_from 0 (length keys))

map-again : (keys : List Key) → is_rising keys ≡ true → length (map_bytes keys) < 2 ^ 64 → map_of (map_bytes keys) ≡ Some (numbered keys)
unfolding map_of
map-again keys rising short =
    let n = length keys in
    let rows = flat_map (map_row keys) (numbers_from 0 n) in
    let size = map_length keys in
    ap (λ o. o >>= (λ (count : ℕ × List ℕ). counted count.0 end_and_value_at count.1 >>= (λ ends. keys_from 0 ends.0 ends.1 >>= (λ entries. provided (is_rising (map (λ entry. entry.0) entries)) >>= (λ _. Some entries))))) (number-again n (rows ++ area_of keys) (omega (arith, short, size)))
    ∙ ap (λ o. o >>= (λ (ends : List (ℕ × ℕ) × List ℕ). keys_from 0 ends.0 ends.1 >>= (λ entries. provided (is_rising (map (λ entry. entry.0) entries)) >>= (λ _. Some entries)))) (rows-again keys 0 n (area_of keys) (omega (arith, short, size)) (omega (arith, short, size)))
    ∙ ap (λ o. o >>= (λ entries. provided (is_rising (map (λ entry. entry.0) entries)) >>= (λ _. Some entries))) (keys-again keys 0 n (omega arith))
    ∙ ap (λ ks. provided (is_rising ks) >>= (λ _. Some (numbered keys))) (firsts keys (numbers_from 0 n) (sym (length-numbers 0 n)))
    ∙ ap (λ t. provided t >>= (λ _. Some (numbered keys))) rising

both-again : (entries : List IndexEntry) → are_rising entries ≡ true → length (map_bytes (keys_in entries)) < 2 ^ 64 → store_of (store_bytes (blocks_at (addresses_in entries))) ≡ Some (addresses_in entries)
    → map_and_store_of (length (map_bytes (keys_in entries))) (map_bytes (keys_in entries) ++ store_bytes (blocks_at (addresses_in entries))) ≡ Some entries
both-again entries rising short stored =
    let keys = keys_in entries in
    let addresses = addresses_in entries in
    let same : length keys ≡ length addresses = length-map entries (λ (e : IndexEntry). e.0) ∙ sym (length-map entries (λ (e : IndexEntry). e.1)) in
    let count : length keys ≡ length (numbers_from 0 (length keys)) = sym (length-numbers 0 (length keys)) in
    let second : map (λ (n : Key × ℕ). n.1) (numbered keys) ≡ numbers_from 0 (length addresses) = seconds keys (numbers_from 0 (length keys)) count ∙ ap (numbers_from 0) same in
    ap (λ o. o >>= (λ (parts : List ℕ × List ℕ). map_of parts.0 >>= (λ numbered_keys. store_of parts.1 >>= (λ addresses. provided (is_same (map (λ numbered. numbered.1) numbered_keys) (numbers_from 0 (length addresses))) >>= (λ _. Some (zip (map (λ numbered. numbered.0) numbered_keys) addresses))))))
    (bytes_at-again (map_bytes keys) (store_bytes (blocks_at addresses)))
    ∙ ap (λ o. o >>= (λ numbered_keys. store_of (store_bytes (blocks_at addresses)) >>= (λ addresses. provided (is_same (map (λ numbered. numbered.1) numbered_keys) (numbers_from 0 (length addresses))) >>= (λ _. Some (zip (map (λ numbered. numbered.0) numbered_keys) addresses)))))
    (map-again keys rising short)
    ∙ ap (λ o. o >>= (λ addresses. provided (is_same (map (λ (n : Key × ℕ). n.1) (numbered keys)) (numbers_from 0 (length addresses))) >>= (λ _. Some (zip (map (λ (n : Key × ℕ). n.0) (numbered keys)) addresses)))) stored
    ∙ ap (λ ns. provided (is_same ns (numbers_from 0 (length addresses))) >>= (λ _. Some (zip (map (λ (n : Key × ℕ). n.0) (numbered keys)) addresses))) second
    ∙ ap (λ t. provided t >>= (λ _. Some (zip (map (λ (n : Key × ℕ). n.0) (numbered keys)) addresses))) (same-self (numbers_from 0 (length addresses)))
    ∙ ap (λ ks. Some (zip ks addresses)) (firsts keys (numbers_from 0 (length keys)) count)
    ∙ ap Some (zip-again entries)

pub part-again : (entries : List IndexEntry) → are_rising entries ≡ true → length (map_and_store entries) < 2 ^ 64 → store_of (store_bytes (blocks_at (addresses_in entries))) ≡ Some (addresses_in entries)
    → index_v3_of (map_and_store entries) ≡ Some (Entries entries)
unfolding index_v3_of
part-again entries rising short stored =
    let keys_map = map_bytes (keys_in entries) in
    let store = store_bytes (blocks_at (addresses_in entries)) in
    let len = length keys_map in
    let last = to_le_bytes w64 len in
    let bytes = keys_map ++ store in
    let whole : map_and_store entries ≡ bytes ++ last = sym (append_assoc keys_map store last) in
    let size : length (bytes ++ last) ≡ length bytes + 8 = length-append bytes last in
    let front : length (bytes ++ last) - 8 ≡ length bytes = omega (arith, size) in
    let few : len < 2 ^ 64 = omega (arith, short, ap length whole, size, length-append keys_map store) in
    let at : number_at w64 (drop (length (bytes ++ last) - 8) (bytes ++ last)) ≡ Some (len, []) =
    ap (λ n. number_at w64 (drop n (bytes ++ last))) front ∙ ap (number_at w64) (drop-append_seam bytes last ∙ sym (append-nil last)) ∙ number-again len [] few in
    let found : at_end 8 (number_at w64) (bytes ++ last) ≡ Some (len, bytes) =
    at_end-found 8 (number_at w64) (bytes ++ last) [] len (omega (arith, size)) at ∙ ap (λ n. Some (len, take n (bytes ++ last))) front ∙ ap (λ bs. Some (len, bs)) (take-append_seam bytes last) in
    ap index_v3_of whole
    ∙ ap (λ o. o >>= (λ (stored : ℕ × List ℕ). if stored.0 == 0 then Some AtMostOneBlock else (map_and_store_of stored.0 stored.1 >>= (λ entries. Some (Entries entries))))) found
    ∙ ap (λ t. if t then Some AtMostOneBlock else (map_and_store_of len bytes >>= (λ entries. Some (Entries entries)))) (ne_eqb len 0 (λ none. absurd (omega (arith, none, map_length (keys_in entries)))))
    ∙ ap (λ o. o >>= (λ entries. Some (Entries entries))) (both-again entries rising few stored)
