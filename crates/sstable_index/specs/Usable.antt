-- Which indexes a table can have.
use Rattle.std.specs.Prelude.{◌≡◌, ℕ, List, Bool, true, Option}
use Rattle.owned_bytes.specs.Keys.{is_rising}
use Rattle.sstable_blocks.specs.Writing.{keys_in}
use Rattle.sstable_format.specs.Index.{IndexEntry, Index, AtMostOneBlock, Entries, index_of_version, map_and_store_of}
use Rattle.block_addresses.specs.Opened.{passing, can_index}
use Rattle.sstable_index.specs.Building.{addresses_in}

-- a table's blocks can have the addresses of these entries
abbrev pub can_have : List IndexEntry → Bool
can_have entries = can_index (addresses_in entries)

-- a table's blocks can have the addresses that the index tells
abbrev pub is_usable : Index → Bool
is_usable AtMostOneBlock = true
is_usable (Entries entries) = can_have entries

-- what an index part of this version tells, where a table can have it
abbrev pub usable_index : ℕ → List ℕ → Option Index
usable_index version part = passing is_usable (index_of_version version part)

-- what a map of this length and a store tell, where a table can have it
abbrev pub usable_entries : ℕ → List ℕ → Option (List IndexEntry)
usable_entries map_length bytes = passing can_have (map_and_store_of map_length bytes)

-- The keys rise, the ordinals don't fall, and no range runs backwards.
pub record AreInOrder (entries : List IndexEntry) : Type 0 where
  pub keys : is_rising (keys_in entries) ≡ true
  pub addresses : can_have entries ≡ true
