-- What a dictionary knows of its table.
use Rattle.std.specs.Prelude.{ℕ, ◌+◌, ◌≤◌, List, slice_range, ⊤, Option, Some, None, option_and_then}
use Rattle.owned_bytes.specs.Keys.{Key}
use Rattle.owned_bytes.specs.Outside.{FileState, ReadsFile}
use Rattle.common_wire.specs.Slices.{Span, span_len}
use Rattle.sstable_values.specs.Codec.{Codec}
use Rattle.sstable_blocks.specs.Run.{Block}
use Rattle.sstable_format.specs.Index.{Index}
use Rattle.sstable_format.specs.Table.{blocks_under, entries_under, longest}

-- where in the file the part of the table before its index stands, the index, and how many entries there are
pub record Opened : Type 0 where
  pub blocks_range : Span
  pub index : Index
  pub num_terms : ℕ

-- The entries of the dictionary's table: those of the blocks that the file's contents have at their range, where the
-- dictionary's index is the index of these blocks, and its number that of their entries.
abbrev pub entries_in : {V : Type 0} → Codec V → Opened → List ℕ → Option (List (Key × V))
entries_in codec opened contents =
    entries_under codec opened.index opened.num_terms (slice_range contents opened.blocks_range.start opened.blocks_range.end)

-- the same, where the contents are told
abbrev pub entries_told : {V : Type 0} → Codec V → Opened → Option (List ℕ) → Option (List (Key × V))
entries_told codec opened contents = option_and_then (entries_in codec opened) contents

-- the blocks that these are the entries of
abbrev pub blocks_in : {V : Type 0} → Codec V → Opened → List ℕ → Option (List (Block V))
blocks_in codec opened contents =
    blocks_under codec opened.index opened.num_terms (slice_range contents opened.blocks_range.start opened.blocks_range.end)

abbrev pub blocks_told : {V : Type 0} → Codec V → Opened → Option (List ℕ) → Option (List (Block V))
blocks_told codec opened contents = option_and_then (blocks_in codec opened) contents

-- where the blocks are told, a count rose by no more than the longest of them and the four zero bytes behind them
abbrev pub FetchesBlock : {V : Type 0} → Option (List (Block V)) → ℕ → ℕ → Type 0
FetchesBlock None before now = ⊤
FetchesBlock (Some blocks) before now = now ≤ before + (longest blocks + 4)

-- At most one read was made, within the blocks' range, of no more than one block and what is behind it.
pub record ReadsBlocks {V : Type 0} (codec : Codec V) (opened : Opened) (before now : FileState) (failure : Type 0) : Type 0 where
  pub reads : ReadsFile before now failure 1 (span_len opened.blocks_range)
  pub block : FetchesBlock (blocks_told codec opened before.contents) before.fetched now.fetched
