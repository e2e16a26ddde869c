-- What writing an index does.
use Rattle.std.specs.Prelude.{◌≡◌, ◌⊎◌, ℕ, ◌*◌, ◌^◌, ◌<◌, ◌≤◌, List, length, false, Option, Some, Result, Ok, Err}
use Rattle.std.specs.Io.KnownBytes.{Appends, Keeps}
use Rattle.owned_bytes.specs.Outside.{AppendsPrefix}
use Rattle.sstable_format.specs.Version.{version_of}
use Rattle.documents.specs.declared.documents.Doc.{Doc}
use Rattle.documents.specs.declared.faults.Fault.TheVariants as faults
use Rattle.documents.specs.declared.faults.PlacedFault.{PlacedFault}
use Rattle.documents.specs.Documents.{AreValidDocuments, documents_size, first_fault}
use Rattle.index_file.specs.IndexFile.{IsIndexOf}
use Rattle.index_writing.specs.declared.errors.WriteError.{WriteError}
use Rattle.index_writing.specs.declared.errors.WriteError.TheVariants.{Memory, Write, TooManyDocuments, BadField, KeyTooLong, ArenaFull}

-- the size of documents that a page takes
abbrev pub page_size : ℕ
page_size = 900000

-- the greatest size of documents that so many pages take
abbrev pub size_limit : ℕ → ℕ
size_limit pages = page_size * pages

-- the documents fit into so many pages
abbrev pub FitPages : List Doc → ℕ → Type 0
FitPages docs pages = documents_size docs ≤ size_limit pages

-- The file is what is written for these documents: an index of them, of version 3.
pub record IsWrittenFor (docs : List Doc) (pages : ℕ) (file : List ℕ) : Type 0 where
  pub fit : FitPages docs pages
  pub index : IsIndexOf file docs
  pub version : version_of file ≡ Some 3

-- such a file was appended
pub record AppendsIndex (docs : List Doc) (pages : ℕ) (old new : Option (List ℕ)) : Type 0 where
  pub file : List ℕ
  pub written : IsWrittenFor docs pages file
  pub appended : Appends old new file

-- a prefix of such a file was appended
pub record AppendsPart (docs : List Doc) (pages : ℕ) (old new : Option (List ℕ)) : Type 0 where
  pub file : List ℕ
  pub written : IsWrittenFor docs pages file
  pub appended : AppendsPrefix old new file

-- a fault of the documents, as an error
abbrev pub error_of : PlacedFault → WriteError
error_of found = elim found.fault [ faults.BadField ↦ BadField found.doc found.pair | faults.KeyTooLong ↦ KeyTooLong found.doc found.pair ]

-- What writing the documents answers, and what the sink tells before and after it.
abbrev pub Writes : List Doc → ℕ → Option (List ℕ) → Option (List ℕ) → Result (Unit {0}) WriteError → Type 0
Writes docs pages old new (Ok done) = AppendsIndex docs pages old new
Writes docs pages old new (Err Memory) = Keeps old new ⊎ AppendsPart docs pages old new
Writes docs pages old new (Err Write) = AppendsPart docs pages old new
Writes docs pages old new (Err TooManyDocuments) = (2 ^ 32 ≤ length docs) × Keeps old new
Writes docs pages old new (Err (BadField doc pair)) =
    (length docs < 2 ^ 32) × (first_fault docs ≡ Some (record { doc = doc; pair = pair; fault = faults.BadField })) × Keeps old new
Writes docs pages old new (Err (KeyTooLong doc pair)) =
    (length docs < 2 ^ 32) × (first_fault docs ≡ Some (record { doc = doc; pair = pair; fault = faults.KeyTooLong })) × Keeps old new
Writes docs pages old new (Err ArenaFull) =
    AreValidDocuments docs × (size_limit pages < documents_size docs) × Keeps old new
