-- What a look-up in a table answers.
use Rattle.std.specs.Prelude.{◌⊎◌, ◌≡◌, ◌≤◌, ◌-◌, ◌+◌, ℕ, List, Option, Some, None, option_map, slice_range, Result, Ok, Err, true}
use Rattle.owned_bytes.specs.Keys.{Key}
use Rattle.owned_bytes.specs.Outside.{FileState, IsRead}
use Rattle.common_wire.specs.Slices.{Span, span_len}
use Rattle.sstable_values.specs.Codec.{Codec, Address}
use Rattle.sstable_blocks.specs.Run.{run_of}
unfoldable use Rattle.sstable_format.specs.Entries.{value_at}
use Rattle.sstable_format.specs.Refused.{is_compressed_at}
use Rattle.sstable_index.specs.declared.errors.SstError.{SstError}
use Rattle.sstable_index.specs.declared.errors.SstError.TheVariants as errors
use Rattle.tantivy_sstable.specs.Opened.{Opened, entries_told}

-- what a look-up of the key in these entries answers
abbrev pub Finds : {V W : Type 0} → (W → V) → List (Key × V) → Key → Result (Option W) SstError → Type 0
Finds shown entries key (Ok found) = option_map shown found ≡ value_at key entries
Finds shown entries key (Err error) = error ≡ errors.Memory

-- the same in the run at the front of the bytes, where one is
abbrev pub FindsRun : {V W : Type 0} → Codec V → (W → V) → List ℕ → Key → Result (Option W) SstError → Type 0
FindsRun {V} codec shown bytes key result = (entries : List (Key × V)) → run_of codec bytes ≡ Some entries → Finds shown entries key result

-- why a look-up in bytes fails
abbrev pub IsLookupError : SstError → Type 0
IsLookupError errors.Memory = Unit {0}
IsLookupError errors.Corrupt = Unit {0}
IsLookupError (errors.Compressed place) = Unit {0}
IsLookupError errors.Read = ⊥
IsLookupError (errors.Version version) = ⊥

-- what a look-up answers, where the entries are told
abbrev pub FindsTold : {V W : Type 0} → (W → V) → Option (List (Key × V)) → Key → Result (Option W) SstError → Type 0
FindsTold shown None key result = Unit {0}
FindsTold shown (Some entries) key (Ok found) = option_map shown found ≡ value_at key entries
FindsTold shown (Some entries) key (Err error) = (error ≡ errors.Memory) ⊎ (error ≡ errors.Read)

-- the same, by what a dictionary knows and the contents of its file
abbrev pub FindsIn : {V W : Type 0} → Codec V → (W → V) → Opened → Option (List ℕ) → Key → Result (Option W) SstError → Type 0
FindsIn codec shown opened contents key result = FindsTold shown (entries_told codec opened contents) key result

-- why a look-up in a file fails
abbrev pub IsReadingError : SstError → Type 0
IsReadingError errors.Memory = Unit {0}
IsReadingError errors.Corrupt = Unit {0}
IsReadingError (errors.Compressed place) = Unit {0}
IsReadingError errors.Read = Unit {0}
IsReadingError (errors.Version version) = ⊥

-- a block is answered to be compressed only where one stands at the place
abbrev pub TellsPlace : List ℕ → SstError → Type 0
TellsPlace table errors.Memory = Unit {0}
TellsPlace table errors.Corrupt = Unit {0}
TellsPlace table (errors.Compressed place) = is_compressed_at place table ≡ true
TellsPlace table errors.Read = Unit {0}
TellsPlace table (errors.Version version) = Unit {0}

-- the same in the bytes at a range of the contents, where they are told
abbrev pub TellsPlaceAt : Option (List ℕ) → Span → SstError → Type 0
TellsPlaceAt None range error = Unit {0}
TellsPlaceAt (Some contents) range error = TellsPlace (slice_range contents range.start range.end) error

-- the same in bytes that stand in the table from the start on
abbrev pub TellsPlaceFrom : ℕ → List ℕ → SstError → Type 0
TellsPlaceFrom start bytes errors.Memory = Unit {0}
TellsPlaceFrom start bytes errors.Corrupt = Unit {0}
TellsPlaceFrom start bytes (errors.Compressed place) = (start ≤ place) × (is_compressed_at (place - start) bytes ≡ true)
TellsPlaceFrom start bytes errors.Read = Unit {0}
TellsPlaceFrom start bytes (errors.Version version) = Unit {0}

-- a block lies within the range of blocks
pub record LiesIn (range : Span) (block : Address) : Type 0 where
  pub ordered : block.start ≤ block.end
  pub within : block.end ≤ span_len range

-- The bytes of a block of a file, which lies within the range.
pub record IsBlockAt (file : FileState) (range : Span) (block : Address) (bytes : List ℕ) : Type 0 where
  pub lies : LiesIn range block
  pub read : IsRead file (range.start + block.start) (range.start + block.end) bytes

-- a block isn't read for want of memory, by the file, or where it doesn't lie within the range
abbrev pub FailsToRead : Span → Address → SstError → Type 0
FailsToRead range block errors.Memory = Unit {0}
FailsToRead range block errors.Read = Unit {0}
FailsToRead range block errors.Corrupt = LiesIn range block → ⊥
FailsToRead range block (errors.Compressed place) = ⊥
FailsToRead range block (errors.Version version) = ⊥
