-- How `build` ends, and what it writes.
use Rattle.std.proofs.Common.{◌≡◌, ◌≢◌, ◌≤◌, ◌<◌, ◌∷◌, [], ◌^◌, inl, inr, ℕ, length, List, Bool, true, false, Option, Some, None, Err, refl, sym, ap, ◌∙◌, subst}
use Rattle.std.specs.Prelude.{cond}
use Rattle.std.proofs.lemmas.Bool.{lt-ltb, le-ltb}
use Rattle.std.specs.Io.KnownBytes.{Keeps}
use Rattle.documents.specs.declared.documents.Doc.{Doc}
use Rattle.documents.specs.declared.faults.Fault.{Fault}
use Rattle.documents.specs.declared.faults.Fault.TheVariants as faults
use Rattle.documents.specs.declared.faults.PlacedFault.{PlacedFault}
use Rattle.documents.specs.Documents.{AreValidDocuments, documents_size, first_fault}
use Rattle.index_writing.specs.declared.errors.WriteError.{WriteError}
use Rattle.index_writing.specs.declared.errors.WriteError.TheVariants as errors
use Rattle.index_writing.specs.Writes.{size_limit, IsWrittenFor, AppendsIndex, Writes}
use Rattle.term_index.specs.declared.input.TheConstants.{INPUT_LIMIT}
use Rattle.term_index.specs.declared.outcome.Outcome.{Outcome}
use Rattle.term_index.specs.declared.outcome.Outcome.TheVariants.{Done, InputTooLong, BadInput, TooManyDocuments, BadField, KeyTooLong, ArenaFull, InFault, StoreFault, Memory}
use Rattle.term_index.specs.Outcomes.{IsAmong}
use Rattle.term_index.specs.Reading.{docs_of}
use Rattle.term_index.specs.Source.{AreHeld, Spell, Tells, Unread}
use Rattle.term_index.specs.Build.{AreKept, placed_end, fault_end, size_end, documents_end, read_end, build_end, BuildEnds, write_end, IsBuilt, Builds, WritesIndex}
use Rattle.term_index.proofs.Valid.{valid_first}
use Rattle.term_index.proofs.SourceLaws.{some_held}
use Rattle.term_index.proofs.GivingLaws.{gives_nothing, gives_weaker}

-- ---- by the documents

many_end : (pages : ℕ) (docs : List Doc) → 2 ^ 32 ≤ length docs → documents_end pages docs ≡ TooManyDocuments
unfolding documents_end
many_end pages docs many = ap (λ b. cond b (fault_end (first_fault docs) (size_end pages docs)) TooManyDocuments) (le-ltb (length docs) (2 ^ 32) many)

few_end : (pages : ℕ) (docs : List Doc) (fault : Option PlacedFault) → length docs < 2 ^ 32 → first_fault docs ≡ fault → documents_end pages docs ≡ fault_end fault (size_end pages docs)
unfolding documents_end
few_end pages docs fault few is =
    ap (λ b. cond b (fault_end (first_fault docs) (size_end pages docs)) TooManyDocuments) (lt-ltb (length docs) (2 ^ 32) few)
    ∙ ap (λ o. fault_end o (size_end pages docs)) is

full_end : (pages : ℕ) (docs : List Doc) → AreValidDocuments docs → size_limit pages < documents_size docs → documents_end pages docs ≡ ArenaFull
full_end pages docs valid large =
    few_end pages docs None valid.few (valid_first docs valid) ∙ ap (λ b. cond b ArenaFull Done) (lt-ltb (size_limit pages) (documents_size docs) large)

pub kept_end : (pages : ℕ) (docs : List Doc) → AreKept pages docs → documents_end pages docs ≡ Done
kept_end pages docs kept =
    few_end pages docs None kept.valid.few (valid_first docs kept.valid) ∙ ap (λ b. cond b ArenaFull Done) (le-ltb (size_limit pages) (documents_size docs) kept.small)

pub kept_of : (pages : ℕ) (docs : List Doc) (file : List ℕ) → IsWrittenFor docs pages file → AreKept pages docs
kept_of pages docs file written = record { valid = written.index.valid; small = written.fit }

-- what holds of each outcome that documents may have
module _ (P : Outcome → Type 0) (done : P Done) (many : P TooManyDocuments) (bad : (doc pair : ℕ) → P (BadField doc pair)) (long : (doc pair : ℕ) → P (KeyTooLong doc pair)) (full : P ArenaFull) where
  by_place : (doc pair : ℕ) (fault : Fault) → P (placed_end doc pair fault)
  by_place doc pair faults.BadField = bad doc pair
  by_place doc pair faults.KeyTooLong = long doc pair

  by_size : (large : Bool) → P (cond large ArenaFull Done)
  by_size true = full
  by_size false = done

  by_fault : (fault : Option PlacedFault) (large : Bool) → P (fault_end fault (cond large ArenaFull Done))
  by_fault None large = by_size large
  by_fault (Some found) large = by_place found.doc found.pair found.fault

  by_count : (few : Bool) (fault : Option PlacedFault) (large : Bool) → P (cond few (fault_end fault (cond large ArenaFull Done)) TooManyDocuments)
  by_count true fault large = by_fault fault large
  by_count false fault large = many

  pub documents_end-all : (pages : ℕ) (docs : List Doc) → P (documents_end pages docs)
  unfolding documents_end
  documents_end-all pages docs = by_count _ (first_fault docs) _

  by_read : (bad_input : P BadInput) (pages : ℕ) (docs : Option (List Doc)) → P (read_end pages docs)
  by_read bad_input pages None = bad_input
  by_read bad_input pages (Some docs) = documents_end-all pages docs

  by_length : (too_long : P InputTooLong) (bad_input : P BadInput) (pages : ℕ) (docs : Option (List Doc)) (long : Bool) → P (cond long InputTooLong (read_end pages docs))
  by_length too_long bad_input pages docs true = too_long
  by_length too_long bad_input pages docs false = by_read bad_input pages docs

  pub build_end-all : P InputTooLong → P BadInput → (pages : ℕ) (bytes : List ℕ) → P (build_end pages bytes)
  unfolding build_end
  build_end-all too_long bad_input pages bytes = by_length too_long bad_input pages (docs_of bytes) _

-- ---- by writing

module _ (pages : ℕ) (docs : List Doc) (old new : Option (List ℕ)) where
  pub written_ends : AppendsIndex docs pages old new → IsAmong (documents_end pages docs ∷ StoreFault ∷ Memory ∷ []) Done
  written_ends appends = inl (sym (kept_end pages docs (kept_of pages docs appends.file appends.written)))

  pub refused_ends : (error : WriteError) → Writes docs pages old new (Err error) → IsAmong (documents_end pages docs ∷ StoreFault ∷ Memory ∷ []) (write_end error)
  refused_ends errors.Memory says = inr (inr (inl refl))
  refused_ends errors.Write says = inr (inl refl)
  refused_ends errors.TooManyDocuments says = inl (sym (many_end pages docs says.0))
  refused_ends (errors.BadField doc pair) says = inl (sym (few_end pages docs (Some (record { doc = doc; pair = pair; fault = faults.BadField })) says.0 says.1))
  refused_ends (errors.KeyTooLong doc pair) says = inl (sym (few_end pages docs (Some (record { doc = doc; pair = pair; fault = faults.KeyTooLong })) says.0 says.1))
  refused_ends errors.ArenaFull says = inl (sym (full_end pages docs says.0 says.1))

-- ---- by the bytes

pub long_end : (pages : ℕ) (bytes : List ℕ) → INPUT_LIMIT < length bytes → build_end pages bytes ≡ InputTooLong
unfolding build_end
long_end pages bytes long = ap (λ b. cond b InputTooLong (read_end pages (docs_of bytes))) (lt-ltb INPUT_LIMIT (length bytes) long)

pub short_end : (pages : ℕ) (bytes : List ℕ) (docs : Option (List Doc)) → length bytes ≤ INPUT_LIMIT → docs_of bytes ≡ docs → build_end pages bytes ≡ read_end pages docs
unfolding build_end
short_end pages bytes docs short is =
    ap (λ b. cond b InputTooLong (read_end pages (docs_of bytes))) (le-ltb INPUT_LIMIT (length bytes) short) ∙ ap (read_end pages) is

pub told_end : (pages : ℕ) (bytes : List ℕ) (docs : List Doc) → Spell bytes docs → build_end pages bytes ≡ documents_end pages docs
told_end pages bytes docs spell = short_end pages bytes (Some docs) spell.short spell.spelled

pub kept_bytes_end : (pages : ℕ) (bytes : List ℕ) (docs : List Doc) → Spell bytes docs → AreKept pages docs → build_end pages bytes ≡ Done
kept_bytes_end pages bytes docs spell kept = told_end pages bytes docs spell ∙ kept_end pages docs kept

-- ---- the command

module _ (pages : ℕ) (left : Option (List ℕ)) (outcome : Outcome) where
  build_ends : (bytes : List ℕ) → AreHeld left bytes → IsAmong (build_end pages bytes ∷ InFault ∷ StoreFault ∷ Memory ∷ []) outcome → BuildEnds pages left outcome
  build_ends bytes held ends = record {
    bytes = bytes;
    held = held;
    ends = ends;
    complete = λ docs spell kept. subst (λ (end : Outcome). IsAmong (end ∷ InFault ∷ StoreFault ∷ Memory ∷ []) outcome) (kept_bytes_end pages bytes docs spell kept) ends;
  }

  -- by the documents that the source tells
  pub told_build_ends : (docs : List Doc) → Tells left docs → IsAmong (documents_end pages docs ∷ StoreFault ∷ Memory ∷ []) outcome → BuildEnds pages left outcome
  told_build_ends docs told ends = build_ends told.bytes told.held (elim ends [
    | inl by_documents ↦ inl (by_documents ∙ sym (told_end pages told.bytes docs told.spell))
    | inr others ↦ inr (inr others)
  ])

  -- before they are known
  pub unread_build_ends : Unread outcome left → BuildEnds pages left outcome
  unread_build_ends unread = by outcome refl unread
    where
      by : (ended : Outcome) → outcome ≡ ended → Unread ended left → BuildEnds pages left outcome
      by InFault is says = let held = some_held left in build_ends held.0 held.1 (inr (inl is))
      by Memory is says = let held = some_held left in build_ends held.0 held.1 (inr (inr (inr (inl is))))
      by InputTooLong is says = build_ends says.bytes says.held (inl (is ∙ sym (long_end pages says.bytes says.long)))
      by BadInput is says = build_ends says.bytes says.held (inl (is ∙ sym (short_end pages says.bytes None says.short says.unspelled)))
      by _ is says = absurd says

-- an outcome that comes before the documents are known is no other one
pub unread_other : (outcome other : Outcome) (left : Option (List ℕ)) → Unread outcome left → ¬ Unread other left → outcome ≢ other
unread_other outcome other left unread none is = none (subst (λ (o : Outcome). Unread o left) is unread)

pub told_builds : (pages : ℕ) (left : Option (List ℕ)) (docs : List Doc) (outcome : Outcome) (old new : Option (List ℕ)) → Tells left docs → WritesIndex pages outcome docs old new → Builds pages outcome left old new
told_builds pages left docs outcome old new told gives =
    gives_weaker (IsWrittenFor docs pages) (IsBuilt pages left) StoreFault outcome old new (λ file written. record { docs = docs; told = told; written = written }) gives

pub unread_builds : (pages : ℕ) (left : Option (List ℕ)) (outcome : Outcome) (old new : Option (List ℕ)) → Unread outcome left → Keeps old new → Builds pages outcome left old new
unread_builds pages left outcome old new unread keeps =
    gives_nothing (IsBuilt pages left) StoreFault outcome old new keeps (unread_other outcome Done left unread (λ says. says)) (unread_other outcome StoreFault left unread (λ says. says))
