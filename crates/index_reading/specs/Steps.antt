-- What the steps of opening an index file answer.
use Rattle.std.specs.Prelude.{◌≡◌, ℕ, ◌+◌, ◌≤◌, List, length, take, drop, true, false, Some, ⊤, IfSome, Result, Ok, Err}
use Rattle.std.specs.Int.{w32, w64, from_le_bytes}
use Rattle.owned_bytes.specs.Outside.{FileState, LeavesFile}
use Rattle.sstable_format.specs.Footer.{footer_len}
use Rattle.sstable_format.specs.Version.{has_known_version, has_unknown_version}
use Rattle.index_file.specs.Header.{Header, header_len, header_at, packed_length}
use Rattle.index_reading.specs.declared.errors.IndexError.{IndexError}
use Rattle.index_reading.specs.declared.errors.IndexError.TheVariants.{Memory, Read, Corrupt, Compressed, Version}
use Rattle.index_reading.specs.Opening.{HasOtherVersion, index_part_in}

-- the file ends with a version that is known
pub record HasKnownVersion (file : List ℕ) : Type 0 where
  pub known : has_known_version file ≡ true
  pub no_other : has_unknown_version file ≡ false

-- what the version of a file tells
abbrev pub ReadsVersion : {T : Type 0} → Result T IndexError → List ℕ → Type 0
ReadsVersion (Ok _) file = HasKnownVersion file
ReadsVersion (Err Memory) file = ⊤
ReadsVersion (Err Read) file = ⊤
ReadsVersion (Err Corrupt) file = ⊥
ReadsVersion (Err (Compressed place)) file = ⊥
ReadsVersion (Err (Version version)) file = HasOtherVersion file version

-- the file begins with these numbers of documents and of numbers
pub record HasHead (documents count : ℕ) (file : List ℕ) : Type 0 where
  pub is_documents : documents ≡ from_le_bytes w32 (take 4 file)
  pub is_count : count ≡ from_le_bytes w64 (take 8 (drop 4 file))

-- the header of these numbers, with the packed numbers that the file has behind it
abbrev pub header_in : ℕ → ℕ → List ℕ → Header
header_in documents count file =
    record { documents = documents; count = count; packed = take (packed_length documents count) (drop header_len file) }

-- the file is of a known version, and its table begins at a place behind a header of these numbers
pub record HasTable (documents count start : ℕ) (file : List ℕ) : Type 0 where
  pub version : HasKnownVersion file
  pub header : header_at file ≡ Some (header_in documents count file, drop start file)
  pub fits : start ≤ length file

-- A table was opened, in at most two reads, and where the contents are told of no more than 20 bytes and the index part.
pub record ReadsTable (before now : FileState) (failure : Type 0) : Type 0 where
  pub leaves : LeavesFile before now failure
  pub reads : now.reads ≤ before.reads + 2
  pub fetched : IfSome before.contents (λ file. now.fetched ≤ before.fetched + (footer_len + length (index_part_in file)))
