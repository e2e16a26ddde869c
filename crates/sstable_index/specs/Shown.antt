-- What an index shows of itself.
use Rattle.std.specs.Prelude.{◌≡◌, ℕ, List, [], ◌∷◌, Option, Some}
use Rattle.owned_bytes.specs.Keys.{Key}
use Rattle.sstable_values.specs.Codec.{Address}
use Rattle.sstable_format.specs.Index.{Index, AtMostOneBlock, Entries}
use Rattle.sstable_index.specs.declared.index.SSTableIndex.{SSTableIndex}
use Rattle.sstable_index.specs.declared.index.SSTableIndex.TheVariants.{V2, V3, V3Empty}
use Rattle.sstable_index.specs.Building.{addresses_in}
use Rattle.sstable_index.specs.Located.{number_with_key, block_with_key}

abbrev pub shown_index : SSTableIndex → Index
shown_index (V2 index) = Entries index
shown_index (V3 index) = Entries index
shown_index (V3Empty index) = AtMostOneBlock

-- where its blocks stand
abbrev pub shown_blocks : SSTableIndex → List Address
shown_blocks (V2 index) = addresses_in index
shown_blocks (V3 index) = addresses_in index
shown_blocks (V3Empty index) = index.block_addr ∷ []

-- the number of the block that a key is looked for in
abbrev pub number_for_key : Key → SSTableIndex → Option ℕ
number_for_key key (V2 index) = number_with_key key index
number_for_key key (V3 index) = number_with_key key index
number_for_key key (V3Empty index) = Some 0

-- where that block stands
abbrev pub block_for_key : Key → SSTableIndex → Option Address
block_for_key key (V2 index) = block_with_key key index
block_for_key key (V3 index) = block_with_key key index
block_for_key key (V3Empty index) = Some index.block_addr

-- the one block is all bytes of so many
abbrev pub IsWhole : SSTableIndex → ℕ → Type 0
IsWhole (V2 index) n = Unit {0}
IsWhole (V3 index) n = Unit {0}
IsWhole (V3Empty index) n = (index.block_addr.start ≡ 0) × (index.block_addr.end ≡ n) × (index.block_addr.first_ordinal ≡ 0)
