-- What the index part of a table tells of its blocks.
use Rattle.std.specs.Prelude.{◌≡◌, ◌≤◌, ℕ, List, ◌-◌, map, length, take, drop, replicate, Bool, Option, Some, None, nat_le, ◌||◌, ◌==◌, if◌then◌else◌}
use Rattle.std.specs.Int.{w64, from_le_bytes}
use Rattle.std.specs.List.{zip}
use Rattle.owned_bytes.specs.Front.{Reading, ◌>>=◌, provided, number_at, bytes_at}
use Rattle.owned_bytes.specs.Keys.{Key, is_same}
use Rattle.fst_map.specs.Map.{map_of}
use Rattle.sstable_values.specs.Codec.{Address, index}
use Rattle.sstable_blocks.specs.Run.{whole_run_of, entries_of}
use Rattle.sstable_format.specs.Store.{store_of, numbers_from}

-- a key from a block's last key on, and the block's address
abbrev pub IndexEntry : Type 0
IndexEntry = Key × Address

abbrev pub is_zeros : ℕ → List ℕ → Bool
is_zeros n bytes = is_same bytes (replicate n 0)

-- What an index part tells: that there is at most one block, or an entry for each block.
pub data Index : Type 0 where
  AtMostOneBlock : Index
  Entries : List IndexEntry → Index

-- an index of version 2: a run to the end of the bytes, or with four zero bytes after it
unfoldable pub index_v2_of : List ℕ → Option Index
index_v2_of part = do
  run ← whole_run_of index part
  _ ← provided (is_zeros 0 run.rest || is_zeros 4 run.rest)
  Some (Entries (entries_of run.blocks))

-- what a reading finds in the last n bytes, and the bytes before them
abbrev pub at_end : {A : Type 0} → ℕ → Reading A → List ℕ → Option (A × List ℕ)
at_end n reading bytes = do
  _ ← provided (nat_le n (length bytes))
  found ← reading (drop (length bytes - n) bytes)
  Some (found.0, take (length bytes - n) bytes)

-- the number in the last eight bytes
abbrev pub EndsWith : List ℕ → ℕ → Type 0
EndsWith part n = (8 ≤ length part) × (from_le_bytes w64 (drop (length part - 8) part) ≡ n)

-- the index part of a table of at most one block
abbrev pub one_block_part : List ℕ
one_block_part = replicate 8 0

-- a map of the keys to the blocks' numbers, as long as is said, and then the blocks' addresses
abbrev pub map_and_store_of : ℕ → List ℕ → Option (List IndexEntry)
map_and_store_of map_length bytes = do
  parts ← bytes_at map_length bytes
  numbered_keys ← map_of parts.0
  addresses ← store_of parts.1
  _ ← provided (is_same (map (λ numbered. numbered.1) numbered_keys) (numbers_from 0 (length addresses)))
  Some (zip (map (λ numbered. numbered.0) numbered_keys) addresses)

-- An index of version 3. It ends with the length of its map. The length 0 tells that there is at most one block, whatever
-- stands before it.
unfoldable pub index_v3_of : List ℕ → Option Index
index_v3_of part = do
  map_length ← at_end 8 (number_at w64) part
  if map_length.0 == 0 then Some AtMostOneBlock
      else (map_and_store_of map_length.0 map_length.1 >>= (λ entries. Some (Entries entries)))

-- the index in an index part of this version
abbrev pub index_of_version : ℕ → List ℕ → Option Index
index_of_version version part =
    if version == 2 then index_v2_of part else (if version == 3 then index_v3_of part else None)
