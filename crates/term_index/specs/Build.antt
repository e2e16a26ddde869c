-- The command `build`: how it ends, and what it writes to the store.
use Rattle.std.specs.Prelude.{◌≤◌, ℕ, ◌^◌, List, [], ◌∷◌, length, nat_lt, Option, Some, None, if◌then◌else◌}
use Rattle.documents.specs.declared.documents.Doc.{Doc}
use Rattle.documents.specs.declared.faults.Fault.{Fault}
use Rattle.documents.specs.declared.faults.Fault.TheVariants as faults
use Rattle.documents.specs.declared.faults.PlacedFault.{PlacedFault}
use Rattle.documents.specs.Documents.{AreValidDocuments, documents_size, first_fault}
use Rattle.index_writing.specs.declared.errors.WriteError.{WriteError}
use Rattle.index_writing.specs.declared.errors.WriteError.TheVariants as errors
use Rattle.index_writing.specs.Writes.{size_limit, IsWrittenFor}
use Rattle.term_index.specs.declared.input.TheConstants.{INPUT_LIMIT}
use Rattle.term_index.specs.declared.outcome.Outcome.{Outcome}
use Rattle.term_index.specs.declared.outcome.Outcome.TheVariants.{Done, InputTooLong, BadInput, TooManyDocuments, BadField, KeyTooLong, ArenaFull, InFault, StoreFault, Memory}
use Rattle.term_index.specs.Outcomes.{IsAmong}
use Rattle.term_index.specs.Reading.{docs_of}
use Rattle.term_index.specs.Source.{AreHeld, Spell, Tells}
use Rattle.term_index.specs.Giving.{Gives}

-- documents that an index can keep, and for which so many pages are enough
pub record AreKept (pages : ℕ) (docs : List Doc) : Type 0 where
  pub valid : AreValidDocuments docs
  pub small : documents_size docs ≤ size_limit pages

-- ---- how it ends

abbrev pub placed_end : ℕ → ℕ → Fault → Outcome
placed_end doc pair faults.BadField = BadField doc pair
placed_end doc pair faults.KeyTooLong = KeyTooLong doc pair

abbrev pub fault_end : Option PlacedFault → Outcome → Outcome
fault_end None end = end
fault_end (Some found) end = placed_end found.doc found.pair found.fault

abbrev pub size_end : ℕ → List Doc → Outcome
size_end pages docs = if nat_lt (size_limit pages) (documents_size docs) then ArenaFull else Done

-- by the documents: too many, then the first fault, then their size
unfoldable pub documents_end : ℕ → List Doc → Outcome
documents_end pages docs = if nat_lt (length docs) (2 ^ 32) then fault_end (first_fault docs) (size_end pages docs) else TooManyDocuments

abbrev pub read_end : ℕ → Option (List Doc) → Outcome
read_end pages None = BadInput
read_end pages (Some docs) = documents_end pages docs

-- by the bytes of the source
unfoldable pub build_end : ℕ → List ℕ → Outcome
build_end pages bytes = if nat_lt INPUT_LIMIT (length bytes) then InputTooLong else read_end pages (docs_of bytes)

-- It ends by the bytes that the source holds, but for a fault or want of memory. Valid documents that are small enough are built.
pub record BuildEnds (pages : ℕ) (left : Option (List ℕ)) (outcome : Outcome) : Type 0 where
  pub bytes : List ℕ
  pub held : AreHeld left bytes
  pub ends : IsAmong (build_end pages bytes ∷ InFault ∷ StoreFault ∷ Memory ∷ []) outcome
  pub complete : (docs : List Doc) → Spell bytes docs → AreKept pages docs → IsAmong (Done ∷ InFault ∷ StoreFault ∷ Memory ∷ []) outcome

-- an error of writing, as an outcome
abbrev pub write_end : WriteError → Outcome
write_end errors.Memory = Memory
write_end errors.Write = StoreFault
write_end errors.TooManyDocuments = TooManyDocuments
write_end (errors.BadField doc pair) = BadField doc pair
write_end (errors.KeyTooLong doc pair) = KeyTooLong doc pair
write_end errors.ArenaFull = ArenaFull

-- ---- what it writes

-- an index of the documents that the source holds
pub record IsBuilt (pages : ℕ) (left : Option (List ℕ)) (file : List ℕ) : Type 0 where
  pub docs : List Doc
  pub told : Tells left docs
  pub written : IsWrittenFor docs pages file

abbrev pub Builds : ℕ → Outcome → Option (List ℕ) → Option (List ℕ) → Option (List ℕ) → Type 0
Builds pages outcome left old new = Gives (IsBuilt pages left) StoreFault outcome old new

-- the same, of documents that are at hand
abbrev pub WritesIndex : ℕ → Outcome → List Doc → Option (List ℕ) → Option (List ℕ) → Type 0
WritesIndex pages outcome docs old new = Gives (IsWrittenFor docs pages) StoreFault outcome old new
