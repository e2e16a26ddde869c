-- An entry by its number.
use Rattle.std.specs.Prelude.{◌≡◌, ◌≤◌, ℕ, List, [], ◌∷◌, ◌++◌, length, Bool, true, false, unwrap_or, Option, Some, Result, Ok, Err}
use Rattle.owned_bytes.specs.Keys.{Key}
use Rattle.sstable_values.specs.declared.errors.BlockError.{BlockError}
use Rattle.sstable_values.specs.declared.errors.BlockError.TheVariants.{Memory}
use Rattle.sstable_values.specs.Codec.{Codec}
use Rattle.sstable_blocks.specs.Entries.{Entry}
use Rattle.sstable_blocks.specs.Slices.{Sliced, entries_here}

-- The reader stands at the entry that has so many of the entries before it, which has this key. The others are still to come.
pub record Reaches {V : Type 0} (codec : Codec V) (entries : List (Key × V)) (number : ℕ) (key : Key) (new : Sliced V) : Type 0 where
  pub skipped : List (Key × V)
  pub entry : Entry V
  pub others : List (Key × V)
  pub parts : entries ≡ skipped ++ (key, entry.value) ∷ others
  pub counted : length skipped ≡ number
  pub current : new.walk.current ≡ Some entry
  pub one : new.more ≡ []
  pub left : entries_here codec (Some key) new ≡ Some others

-- what a call did that goes to an entry: its key is this one; it fails for want of memory alone
abbrev pub GoesTo : {V : Type 0} → Codec V → List (Key × V) → ℕ → Key → Sliced V → Result Bool BlockError → Type 0
GoesTo codec entries number key new (Ok true) = Reaches codec entries number key new
GoesTo codec entries number key new (Ok false) = length entries ≤ number
GoesTo codec entries number key new (Err e) = e ≡ Memory

-- the same with some key, whatever entries were to come in the reader's only slice
abbrev pub GoesToNumber : {V : Type 0} → Codec V → Sliced V → Sliced V → ℕ → Result Bool BlockError → Type 0
GoesToNumber {V} codec old new number result =
    (before : Option Key) (entries : List (Key × V)) → old.more ≡ [] → entries_here codec before old ≡ Some entries
    → (key : Key) × GoesTo codec entries number key new result

-- the same with the new key, where the old one is that before the entries
abbrev pub GoesToKey : {V : Type 0} → Codec V → Sliced V → Sliced V → ℕ → Key → Key → Result Bool BlockError → Type 0
GoesToKey {V} codec old new number old_key new_key result =
    (before : Option Key) (entries : List (Key × V)) → old.more ≡ [] → unwrap_or before [] ≡ old_key
    → entries_here codec before old ≡ Some entries → GoesTo codec entries number new_key new result
