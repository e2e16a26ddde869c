-- How the bytes of an index file are made of what was gathered.
use Rattle.std.specs.Prelude.{◌≡◌, ℕ, ◌+◌, List, [], ◌∷◌, ◌++◌, length, false, Option, Some}
use Rattle.std.specs.Int.{w32, w64, to_le_bytes}
use Rattle.std.specs.List.{flat_map}
use Rattle.std.specs.declared.ops.Range.{Range}
use Rattle.owned_bytes.specs.Keys.{Key}
use Rattle.tantivy_bitpacker.specs.Packed.{Bits, HasPacked, at_width}
use Rattle.sstable_values.specs.Codec.{range}
use Rattle.sstable_format.specs.Version.{version_of}
use Rattle.sstable_format.specs.Table.{sst_of}
use Rattle.documents.specs.declared.documents.Doc.{Doc}
use Rattle.index_file.specs.IndexFile.{IsIndexOf}

-- the numbers of all keys, one list after the other
abbrev pub numbers_of_all : List (Key × List ℕ) → List ℕ
numbers_of_all postings = flat_map (λ posting. posting.1) postings

-- Whatever was packed before, the packer has packed these numbers behind it, at this width.
abbrev pub PacksAll : ℕ → List ℕ → Bits → Bits → List ℕ → List ℕ → Type 0
PacksAll width numbers held now_held told now_told = (pieces : List (ℕ × ℕ)) (before : Option (List ℕ))
    → HasPacked pieces held before (Some told) → HasPacked (pieces ++ at_width width numbers) now_held before (Some now_told)

-- each key with the places of its numbers, the first at start
unfoldable pub ranged : ℕ → List (Key × List ℕ) → List (Key × Range ℕ)
ranged start [] = []
ranged start (posting ∷ postings) =
    (posting.0, record { start = start; end = start + length posting.1 }) ∷ ranged (start + length posting.1) postings

abbrev pub header_bytes : ℕ → ℕ → List ℕ
header_bytes documents count = to_le_bytes w32 documents ++ to_le_bytes w64 count

-- a table of these entries, of version 3, was appended
pub record GainsTable (entries : List (Key × Range ℕ)) (old new : List ℕ) : Type 0 where
  pub table : List ℕ
  pub appended : new ≡ old ++ table
  pub told : sst_of range table ≡ Some entries
  pub version : version_of table ≡ Some 3

-- the file is an index of the documents, of version 3
pub record IsReadyIndex (docs : List Doc) (file : List ℕ) : Type 0 where
  pub index : IsIndexOf file docs
  pub version : version_of file ≡ Some 3
