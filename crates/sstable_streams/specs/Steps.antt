-- Steps from one entry of a reader to the next.
use Rattle.std.specs.Prelude.{◌≡◌, ℕ, ◌^◌, List, [], ◌∷◌, unwrap_or, Bool, true, false, Option, Some, None, Result, Ok, Err}
use Rattle.owned_bytes.specs.Keys.{Key}
use Rattle.sstable_values.specs.declared.errors.BlockError.{BlockError}
use Rattle.sstable_values.specs.declared.errors.BlockError.TheVariants.{Memory}
use Rattle.sstable_blocks.specs.Placed.{Placed}
use Rattle.sstable_blocks.specs.Entries.{Entry}
use Rattle.sstable_streams.specs.Streams.{Place, Current, HasLeft, key_of, shown_entry}

-- the position of the next entry; one that needs more than 64 bits is told as the least such number
abbrev pub next_of : Option ℕ → ℕ
next_of next = unwrap_or next (2 ^ 64)

-- the entry that a reader is at, with its position and its key, where that is kept
abbrev pub current_of : {V : Type 0} → ℕ → Option Key → Option (Entry V) → Option (Current V)
current_of ord kept None = None
current_of ord kept (Some entry) = Some (record { ord = ord; key = kept; value = entry.value })

-- The first of these entries is the current one, and the others are left behind its key.
pub record IsNext {V S : Type 0} (entries : List (Placed V)) (now : Option (Current V)) (place : Place V S) : Type 0 where
  pub entry : Placed V
  pub others : List (Placed V)
  pub first : entries ≡ entry ∷ others
  pub current : now ≡ Some (shown_entry place.known.kept entry)
  pub left : HasLeft place (Some (key_of entry)) others

-- what a step gave of the entries that were left
abbrev pub StepsTo : {V S : Type 0} → List (Placed V) → Option (Current V) → Place V S → Result Bool BlockError → Type 0
StepsTo entries now place (Ok true) = IsNext entries now place
StepsTo entries now place (Ok false) = entries ≡ []
StepsTo entries now place (Err e) = e ≡ Memory
