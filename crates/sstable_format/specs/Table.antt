-- A table: blocks and four zero bytes, an index of the blocks, and a footer.
use Rattle.std.specs.Prelude.{ℕ, ◌+◌, ◌-◌, max, List, [], ◌∷◌, length, take, drop, Bool, true, false, Option, Some, None, unwrap_or, option_map, nat_le, ◌&&◌, ◌==◌, not}
use Rattle.owned_bytes.specs.Front.{◌>>=◌, provided, bytes_at}
use Rattle.owned_bytes.specs.Keys.{Key, is_below}
use Rattle.sstable_values.specs.Codec.{Codec, Address}
use Rattle.sstable_blocks.specs.Run.{Block, whole_run_of, entries_of, last_key}
use Rattle.sstable_format.specs.Footer.{footer_at, footer_len}
use Rattle.sstable_format.specs.Index.{IndexEntry, Index, AtMostOneBlock, Entries, is_zeros, at_end, index_of_version}

-- the true address of each block, the first of which starts at start and has its first key at position ordinal
unfoldable pub places_from : {V : Type 0} → ℕ → ℕ → List (Block V) → List Address
places_from start ordinal [] = []
places_from start ordinal (block ∷ others) =
    let end = start + 5 + length block.content in
    record { start = start; end = end; first_ordinal = ordinal } ∷ places_from end (ordinal + length block.entries) others

abbrev pub same_address : Address → Address → Bool
same_address a b = (a.start == b.start) && (a.end == b.end) && (a.first_ordinal == b.first_ordinal)

-- the key isn't below the last key
abbrev pub reaches : Option Key → Key → Bool
reaches None key = true
reaches (Some last) key = not (is_below key last)

-- the key is below the first of the entries, where there is one
abbrev pub is_below_first : {V : Type 0} → Key → List (Key × V) → Bool
is_below_first key [] = true
is_below_first key (entry ∷ entries) = is_below key entry.0

-- the key is below the first key of the next block, where there is one
abbrev pub stays_below_next : {V : Type 0} → Key → List (Block V) → Bool
stays_below_next key [] = true
stays_below_next key (block ∷ blocks) = is_below_first key block.entries

-- one entry for each block, with its true address, and a key from its last key on and below the next block's first key
unfoldable pub points_to : {V : Type 0} → List IndexEntry → List (Block V) → List Address → Bool
points_to [] [] [] = true
points_to (entry ∷ entries) (block ∷ blocks) (place ∷ places) =
    same_address entry.1 place && reaches (last_key block.entries) entry.0 && stays_below_next entry.0 blocks
    && points_to entries blocks places
points_to _ _ _ = false

-- an index is one of these blocks
abbrev pub indexes : {V : Type 0} → Index → List (Block V) → Bool
indexes AtMostOneBlock blocks = nat_le (length blocks) 1
indexes (Entries entries) blocks = points_to entries blocks (places_from 0 0 blocks)

-- a codec where the first key of each block keeps nothing
abbrev pub keeping_nothing : {V : Type 0} → Codec V → Codec V
keeping_nothing codec = record codec { goes_on = false }

-- the blocks in the part of a table before its index: blocks, and then four zero bytes
unfoldable pub blocks_of : {V : Type 0} → Codec V → List ℕ → Option (List (Block V))
blocks_of codec part = do
  run ← whole_run_of (keeping_nothing codec) part
  _ ← provided (is_zeros 4 run.rest)
  Some run.blocks

-- the blocks in the part of a table before its index, where this is their index and they have so many entries
unfoldable pub blocks_under : {V : Type 0} → Codec V → Index → ℕ → List ℕ → Option (List (Block V))
blocks_under codec index count part = do
  blocks ← blocks_of codec part
  _ ← provided (count == length (entries_of blocks) && indexes index blocks)
  Some blocks

-- the entries in that part
abbrev pub entries_under : {V : Type 0} → Codec V → Index → ℕ → List ℕ → Option (List (Key × V))
entries_under codec index count part = do
  blocks ← blocks_under codec index count part
  Some (entries_of blocks)

-- The parts of a table: the bytes before the index part, the index part, and what its footer says.
pub record Parts : Type 0 where
  pub front : List ℕ
  pub index_part : List ℕ
  pub count : ℕ
  pub version : ℕ

unfoldable pub parts_of : List ℕ → Option Parts
parts_of table = do
  ended ← at_end footer_len footer_at table
  parts ← bytes_at ended.0.index_offset ended.1
  Some (record { front = parts.0; index_part = parts.1; count = ended.0.num_terms; version = ended.0.version })

-- A table: its blocks, its index part and its version.
pub record Sst (V : Type 0) : Type 0 where
  pub blocks : List (Block V)
  pub index_part : List ℕ
  pub version : ℕ

unfoldable pub whole_sst_of : {V : Type 0} → Codec V → List ℕ → Option (Sst V)
whole_sst_of codec table = do
  parts ← parts_of table
  index ← index_of_version parts.version parts.index_part
  blocks ← blocks_under codec index parts.count parts.front
  Some (record { blocks = blocks; index_part = parts.index_part; version = parts.version })

-- the sorted list of keys and values of a table
unfoldable pub sst_of : {V : Type 0} → Codec V → List ℕ → Option (List (Key × V))
sst_of codec table = do
  sst ← whole_sst_of codec table
  Some (entries_of sst.blocks)

-- the bytes between the index offset and the footer
abbrev pub index_part_of : List ℕ → List ℕ
index_part_of table = unwrap_or (option_map (λ parts. parts.index_part) (parts_of table)) []

-- the bytes from a place on, up to the footer
abbrev pub index_part_at : ℕ → List ℕ → List ℕ
index_part_at offset table = drop offset (take (length table - footer_len) table)

-- the blocks of a table
abbrev pub table_blocks : {V : Type 0} → Codec V → List ℕ → Option (List (Block V))
table_blocks codec table = option_map (λ sst. sst.blocks) (whole_sst_of codec table)

-- the bytes of the longest block, its length word and its compress byte too
abbrev pub longest : {V : Type 0} → List (Block V) → ℕ
longest [] = 0
longest (block ∷ blocks) = max (5 + length block.content) (longest blocks)
