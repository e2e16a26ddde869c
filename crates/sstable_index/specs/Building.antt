-- Building the index of a table's blocks.
use Rattle.std.specs.Prelude.{◌≡◌, ℕ, ◌+◌, List, [], ◌∷◌, ◌++◌, length, map, take, Bool, true, false, nat_le, ◌&&◌, ◌==◌, ◌⊎◌, Option, Some, Result, Ok, Err}
use Rattle.std.specs.Int.{w64, to_le_bytes}
use Rattle.std.specs.List.{flat_map}
use Rattle.std.specs.Io.KnownBytes.{Appends, Keeps}
use Rattle.std.specs.declared.ops.Range.{Range}
use Rattle.owned_bytes.specs.Keys.{Key, is_rising}
use Rattle.owned_bytes.specs.Outside.{AppendsPrefix}
use Rattle.sstable_values.specs.Codec.{Address, last_is}
use Rattle.sstable_blocks.specs.Writing.{keys_in}
use Rattle.sstable_format.specs.Store.{numbers_from}
use Rattle.sstable_format.specs.Index.{IndexEntry, Index, AtMostOneBlock, Entries, one_block_part, index_of_version}
use Rattle.block_addresses.specs.Written.{Blocks, store_bytes}
use Rattle.block_addresses.specs.Shortened.{shortened}
use Rattle.sstable_index.specs.declared.write_errors.SstWriteError.{SstWriteError}
use Rattle.sstable_index.specs.declared.write_errors.SstWriteError.TheVariants.{Memory, Write, Unsorted, ValueRefused, BlockTooLong, Spent}

-- a block has at most the bytes that a length of 32 bits and the length itself make
abbrev pub longest_block : ℕ
longest_block = 4294967299

-- a block's first key is at most so many keys behind that of the block before
abbrev pub most_keys : ℕ
most_keys = 4294967296

-- where a block stands, and the position of its first key
abbrev pub address_of : Range ℕ → ℕ → Address
address_of range first_ordinal = record { start = range.start; end = range.end; first_ordinal = first_ordinal }

abbrev pub is_block : Address → Bool
is_block address = nat_le address.start address.end && nat_le address.end (address.start + longest_block)

-- a block begins where the one before ends
abbrev pub comes_next : Address → Address → Bool
comes_next before address =
    before.end == address.start
    && (nat_le before.first_ordinal address.first_ordinal && nat_le address.first_ordinal (before.first_ordinal + most_keys))

-- these are the addresses of blocks one behind the other
unfoldable pub adjoin : List Address → Bool
adjoin [] = true
adjoin (address ∷ []) = is_block address
adjoin (address ∷ next ∷ addresses) = is_block address && (comes_next address next && adjoin (next ∷ addresses))

abbrev pub addresses_in : List IndexEntry → List Address
addresses_in entries = map (λ entry. entry.1) entries

-- A block may be added behind these.
pub record MayComeNext (entries : List IndexEntry) (range : Range ℕ) (first_ordinal : ℕ) : Type 0 where
  pub fits : is_block (address_of range first_ordinal) ≡ true
  pub next : last_is (λ before. comes_next before (address_of range first_ordinal)) (addresses_in entries) ≡ true

-- the last key is shortened to where it still comes before the next key
abbrev pub with_last_key_shortened : List IndexEntry → Key → List IndexEntry
with_last_key_shortened [] next = []
with_last_key_shortened (entry ∷ []) next = (shortened entry.0 next, entry.1) ∷ []
with_last_key_shortened (entry ∷ other ∷ entries) next = entry ∷ with_last_key_shortened (other ∷ entries) next

-- where blocks start, and behind that where the last one ends
abbrev pub starts_of : List Address → List ℕ
starts_of [] = []
starts_of (address ∷ addresses) = address.start ∷ map (λ block. block.end) (address ∷ addresses)

abbrev pub blocks_at : List Address → Blocks
blocks_at addresses = record { starts = starts_of addresses; ordinals = map (λ address. address.first_ordinal) addresses }

-- where key i ends among keys that stand one after the other
abbrev pub end_of : List Key → ℕ → ℕ
end_of keys i = length (flat_map (λ key. key) (take (i + 1) keys))

-- how a map tells of key i: where it ends, and its number
abbrev pub map_row : List Key → ℕ → List ℕ
map_row keys i = to_le_bytes w64 (end_of keys i) ++ to_le_bytes w64 i

-- a map from keys to their numbers: how many, the rows, and the keys one after the other
abbrev pub map_bytes : List Key → List ℕ
map_bytes keys =
    to_le_bytes w64 (length keys) ++ (flat_map (map_row keys) (numbers_from 0 (length keys)) ++ flat_map (λ key. key) keys)

-- the index part of two blocks and more: the map, the address store, and the map's length
abbrev pub map_and_store : List IndexEntry → List ℕ
map_and_store entries =
    let keys_map = map_bytes (keys_in entries) in
    keys_map ++ (store_bytes (blocks_at (addresses_in entries)) ++ to_le_bytes w64 (length keys_map))

-- the index part of version 3 of these blocks
abbrev pub index_part : List IndexEntry → List ℕ
index_part [] = one_block_part
index_part (entry ∷ []) = one_block_part
index_part (entry ∷ next ∷ entries) = map_and_store (entry ∷ next ∷ entries)

-- how long its map is, or 0 where it has none
abbrev pub map_len : List IndexEntry → ℕ
map_len [] = 0
map_len (entry ∷ []) = 0
map_len (entry ∷ next ∷ entries) = length (map_bytes (keys_in (entry ∷ next ∷ entries)))

-- what it tells
abbrev pub index_of : List IndexEntry → Index
index_of [] = AtMostOneBlock
index_of (entry ∷ []) = AtMostOneBlock
index_of (entry ∷ next ∷ entries) = Entries (entry ∷ next ∷ entries)

abbrev pub are_rising : List IndexEntry → Bool
are_rising entries = is_rising (keys_in entries)

-- a sink failed, or had no memory
abbrev pub FromSink : SstWriteError → Type 0
FromSink error = (error ≡ Memory) ⊎ (error ≡ Write)

-- The index part was appended, and is read again.
pub record AppendsIndex (entries : List IndexEntry) (old new : Option (List ℕ)) (len : ℕ) : Type 0 where
  pub appended : Appends old new (index_part entries)
  pub read : index_of_version 3 (index_part entries) ≡ Some (index_of entries)
  pub map_length : len ≡ map_len entries
  pub rising : are_rising entries ≡ true

-- The keys rise, but a call stopped in the index part.
pub record StopsIndex (entries : List IndexEntry) (old new : Option (List ℕ)) : Type 0 where
  pub front : AppendsPrefix old new (index_part entries)
  pub rising : are_rising entries ≡ true

-- What a call did that appends the index part of version 3.
abbrev pub Serializes : List IndexEntry → Option (List ℕ) → Option (List ℕ) → Result ℕ SstWriteError → Type 0
Serializes entries old new (Ok len) = AppendsIndex entries old new len
Serializes entries old new (Err Memory) = StopsIndex entries old new
Serializes entries old new (Err Write) = StopsIndex entries old new
Serializes entries old new (Err Unsorted) = (are_rising entries ≡ false) × Keeps old new
Serializes entries old new (Err ValueRefused) = ⊥
Serializes entries old new (Err BlockTooLong) = ⊥
Serializes entries old new (Err Spent) = ⊥
