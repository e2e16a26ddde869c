-- Laws of indexes.
use Rattle.std.specs.Prelude.{◌≡◌, ℕ, ◌^◌, ◌<◌, List, length, true, Some}
use Rattle.sstable_values.specs.Codec.{Codec}
use Rattle.sstable_blocks.specs.Run.{Block}
use Rattle.sstable_format.specs.Index.{IndexEntry, Entries}
use Rattle.sstable_format.specs.Table.{blocks_under}
use Rattle.sstable_index.specs.Usable.{can_have, usable_index, AreInOrder}

-- An index that a table of less than 2^64 bytes and entries has is usable.
abbrev pub TablesCanHave : {V : Type 0} → Codec V → Type 0
TablesCanHave {V} codec =
    (entries : List IndexEntry) (count : ℕ) (front : List ℕ) (blocks : List (Block V))
    → blocks_under codec (Entries entries) count front ≡ Some blocks → length front < 2 ^ 64 → count < 2 ^ 64
    → can_have entries ≡ true

-- The entries of a usable index are in order.
abbrev pub UsableIndexesAreInOrder : Type 0
UsableIndexesAreInOrder =
    (version : ℕ) (part : List ℕ) (entries : List IndexEntry) → usable_index version part ≡ Some (Entries entries) → AreInOrder entries
