-- What a table answers when it is opened.
use Rattle.std.specs.Prelude.{◌≡◌, ℕ, ◌+◌, ◌≤◌, List, length, slice_range, ⊤, true, false, Option, Some, None, Result, Ok, Err}
use Rattle.owned_bytes.specs.Outside.{FileState, LeavesFile}
use Rattle.common_wire.specs.Slices.{Span}
use Rattle.sstable_values.specs.Codec.{Codec}
use Rattle.sstable_format.specs.Footer.{footer_len}
use Rattle.sstable_format.specs.Table.{index_part_of, table_blocks, sst_of}
use Rattle.sstable_format.specs.Version.{version_of, is_known, has_known_version, has_unknown_version}
use Rattle.sstable_format.specs.Refused.{is_compressed_at}
use Rattle.sstable_index.specs.declared.errors.SstError.{SstError}
use Rattle.sstable_index.specs.declared.errors.SstError.TheVariants.{Memory, Read, Corrupt, Compressed, Version}
use Rattle.tantivy_sstable.specs.Opened.{Opened, entries_in, blocks_in}

-- What opening a table answers, by its bytes and those of the file that it stands in. A dictionary has the entries and
-- the blocks of the table, and none where the table is damaged.
abbrev pub Opens : {V : Type 0} → Codec V → List ℕ → List ℕ → Result Opened SstError → Type 0
Opens codec contents table (Ok opened) =
    (has_known_version table ≡ true) × (entries_in codec opened contents ≡ sst_of codec table)
    × (blocks_in codec opened contents ≡ table_blocks codec table)
Opens codec contents table (Err Memory) = ⊤
Opens codec contents table (Err Read) = ⊤
Opens codec contents table (Err Corrupt) = (has_unknown_version table ≡ false) × (sst_of codec table ≡ None)
Opens codec contents table (Err (Compressed place)) =
    (has_known_version table ≡ true) × (sst_of codec table ≡ None) × (is_compressed_at place table ≡ true)
Opens codec contents table (Err (Version version)) = (version_of table ≡ Some version) × (is_known version ≡ false)

-- the table that stands at a range of a file
abbrev pub table_at : List ℕ → Span → List ℕ
table_at contents range = slice_range contents range.start range.end

-- a fact about the table at a range of the contents, where they are told
abbrev pub TellsAt : Option (List ℕ) → Span → (List ℕ → Type 0) → Type 0
TellsAt None range fact = ⊤
TellsAt (Some contents) range fact = fact (table_at contents range)

-- what opening the table at a range of the contents answers, where they are told
abbrev pub OpensAt : {V : Type 0} → Codec V → Option (List ℕ) → Span → Result Opened SstError → Type 0
OpensAt codec None range result = ⊤
OpensAt codec (Some contents) range result = Opens codec contents (table_at contents range) result

-- Where the contents are told, a count rose by no more than the lengths of the footer and the index part.
abbrev pub FetchesIndex : Option (List ℕ) → Span → ℕ → ℕ → Type 0
FetchesIndex None range before now = ⊤
FetchesIndex (Some contents) range before now = now ≤ before + (footer_len + length (index_part_of (table_at contents range)))

-- The footer and the index part of the table at a range were read, in at most two reads, and no other byte.
pub record ReadsEnds (before now : FileState) (range : Span) (failure : Type 0) : Type 0 where
  pub leaves : LeavesFile before now failure
  pub reads : now.reads ≤ before.reads + 2
  pub index : FetchesIndex before.contents range before.fetched now.fetched

-- a range lies within another
pub record LiesWithin (inner outer : Span) : Type 0 where
  pub start : outer.start ≤ inner.start
  pub ordered : inner.start ≤ inner.end
  pub end : inner.end ≤ outer.end

-- what was opened, without the file beside it
abbrev pub without_file : {F : Type 0} → Result (Opened × F) SstError → Result Opened SstError
without_file (Ok both) = Ok both.0
without_file (Err error) = Err error
