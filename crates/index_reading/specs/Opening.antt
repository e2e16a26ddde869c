-- What opening an index file answers.
use Rattle.std.specs.Prelude.{◌≡◌, ℕ, ◌+◌, ◌≤◌, List, [], length, ⊤, true, false, Option, Some, None, unwrap_or, option_map, Result, Ok, Err}
use Rattle.std.specs.declared.ops.Range.{Range}
use Rattle.owned_bytes.specs.Front.{◌>>=◌}
use Rattle.owned_bytes.specs.Outside.{FileState}
use Rattle.sstable_values.specs.Codec.{range}
use Rattle.sstable_blocks.specs.Run.{Block}
use Rattle.tantivy_sstable.specs.Opened.{blocks_in}
use Rattle.sstable_format.specs.Table.{table_blocks, index_part_of}
use Rattle.sstable_format.specs.Version.{version_of, is_known}
use Rattle.sstable_format.specs.Refused.{is_compressed_at}
use Rattle.index_file.specs.Header.{header_at}
use Rattle.index_file.specs.IndexFile.{table_of}
use Rattle.index_file.specs.Opening.{CanBeOpened, IsDamaged}
use Rattle.index_reading.specs.declared.open.OpenIndex.{OpenIndex}
use Rattle.index_reading.specs.declared.errors.IndexError.{IndexError}
use Rattle.index_reading.specs.declared.errors.IndexError.TheVariants.{Memory, Read, Corrupt, Compressed, Version}
use Rattle.index_reading.specs.Opened.{postings_in}

-- the blocks of the file's table
abbrev pub blocks_of : List ℕ → Option (List (Block (Range ℕ)))
blocks_of file = header_at file >>= (λ parts. table_blocks range parts.1)

-- the file can be opened, and the opened index has what the file tells, and the blocks of its table
pub record HasOpened (file : List ℕ) (index : OpenIndex) : Type 0 where
  pub readable : CanBeOpened file
  pub postings : postings_in index file ≡ table_of file
  pub blocks : blocks_in range index.dictionary file ≡ blocks_of file

-- the file can be opened and is no index, and a compressed block stands at a place
pub record IsCompressed (file : List ℕ) (place : ℕ) : Type 0 where
  pub readable : CanBeOpened file
  pub no_table : table_of file ≡ None
  pub compressed : is_compressed_at place file ≡ true

-- the file ends with another version
pub record HasOtherVersion (file : List ℕ) (version : ℕ) : Type 0 where
  pub told : version_of file ≡ Some version
  pub unknown : is_known version ≡ false

-- what opening a file answers, by its bytes
abbrev pub Opens : List ℕ → Result OpenIndex IndexError → Type 0
Opens file (Ok index) = HasOpened file index
Opens file (Err Memory) = ⊤
Opens file (Err Read) = ⊤
Opens file (Err Corrupt) = IsDamaged file
Opens file (Err (Compressed place)) = IsCompressed file place
Opens file (Err (Version version)) = HasOtherVersion file version

-- the same, where the contents are told
abbrev pub OpensTold : Option (List ℕ) → Result OpenIndex IndexError → Type 0
OpensTold None result = ⊤
OpensTold (Some file) result = Opens file result

-- the index part of the file's table
abbrev pub index_part_in : List ℕ → List ℕ
index_part_in file = unwrap_or (option_map (λ parts. index_part_of parts.1) (header_at file)) []

-- Where the contents are told, no more than 52 bytes and the length of the index part were fetched: two footers of 20 bytes,
-- and the header's 12.
abbrev pub FetchesOpening : FileState → FileState → Type 0
FetchesOpening before now =
    (file : List ℕ) → before.contents ≡ Some file → now.fetched ≤ before.fetched + (52 + length (index_part_in file))
