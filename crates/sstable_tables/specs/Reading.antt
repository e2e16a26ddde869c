-- How a reader goes over the entries of a table.
use Rattle.std.specs.Prelude.{◌≡◌, ℕ, List, [], ◌∷◌, unwrap_or, Option, Some, None, MatchOption, Result, Ok, Err, Bool, true, false, if◌then◌else◌}
use Rattle.owned_bytes.specs.Keys.{Key}
use Rattle.sstable_values.specs.declared.errors.BlockError.{BlockError}
use Rattle.sstable_values.specs.declared.errors.BlockError.TheVariants.{Memory}
use Rattle.sstable_values.specs.Codec.{Codec}
use Rattle.sstable_blocks.specs.Delta.{Delta}
use Rattle.sstable_blocks.specs.Run.{run_of}
use Rattle.sstable_blocks.specs.Entries.{Walk}
use Rattle.sstable_blocks.specs.Slices.{Sliced, entries_here}

-- What a reader shows: where its reader of entries stands, with the answer that stays, and the key of the current entry.
pub record Reads (V : Type 0) : Type 0 where
  pub stands : Sliced V
  pub key : Key

-- a reader that answers Memory for good, and has no current entry
abbrev pub spent : {V : Type 0} → Sliced V → Sliced V
spent {V} stands = let walk : Walk V = record stands.walk { current = None } in record stands { walk = walk; final = Some (Err Memory) }

-- where a reader stands, unless it lost a key
abbrev pub unless_lost : {V : Type 0} → Bool → Sliced V → Sliced V
unless_lost lost stands = if lost then spent stands else stands

-- These entries of one run are still to come.
pub record HasLeft {V : Type 0} (codec : Codec V) (reads : Reads V) (entries : List (Key × V)) : Type 0 where
  pub before : Option Key
  pub key : unwrap_or before [] ≡ reads.key
  pub one : reads.stands.more ≡ []
  pub left : entries_here codec before reads.stands ≡ Some entries

-- the entries of the run at the front of the bytes, where one is, are still to come
abbrev pub HasRun : {V : Type 0} → Codec V → List ℕ → Reads V → Type 0
HasRun {V} codec bytes reads = (entries : List (Key × V)) → run_of codec bytes ≡ Some entries → HasLeft codec reads entries

-- the current entry is the first of these, and the others are still to come
pub record Takes {V : Type 0} (codec : Codec V) (entries : List (Key × V)) (reads : Reads V) : Type 0 where
  pub value : V
  pub others : List (Key × V)
  pub delta : Delta
  pub first : entries ≡ (reads.key, value) ∷ others
  pub current : reads.stands.walk.current ≡ Some (record { delta = delta; value = value })
  pub left : HasLeft codec reads others

-- what a call did that goes to the next of these entries
abbrev pub GoesOn : {V : Type 0} → Codec V → List (Key × V) → Reads V → Result Bool BlockError → Type 0
GoesOn codec entries reads (Ok true) = Takes codec entries reads
GoesOn codec entries reads (Ok false) = entries ≡ []
GoesOn codec entries reads (Err e) = e ≡ Memory

-- whatever entries were to come, a call gave the first of them, or answered that there is none
abbrev pub GivesNext : {V : Type 0} → Codec V → Reads V → Reads V → Result Bool BlockError → Type 0
GivesNext {V} codec old new result = (entries : List (Key × V)) → HasLeft codec old entries → GoesOn codec entries new result

-- where an answer stays, each later call gives it and changes nothing
abbrev pub KeepsAnswer : {V : Type 0} → Reads V → Reads V → Result Bool BlockError → Type 0
KeepsAnswer old new result = MatchOption old.stands.final (Unit {0}) (λ answer. (result ≡ answer) × (new ≡ old))
