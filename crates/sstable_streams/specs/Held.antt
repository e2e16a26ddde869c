-- Compressed blocks in what a reader has left.
use Rattle.std.specs.Prelude.{◌≡◌, ℕ, ◌+◌, List, [], ◌∷◌, drop, Bool, true, false, None, Result, Ok, Err, ◌⊎◌}
use Rattle.sstable_values.specs.declared.errors.BlockError.{BlockError}
use Rattle.sstable_values.specs.declared.errors.BlockError.TheVariants.{Memory, Corrupt, Compressed}
use Rattle.sstable_blocks.specs.declared.block_reader.BlockSlice.{BlockSlice}
unfoldable use Rattle.sstable_blocks.specs.Content.{block_at}
use Rattle.sstable_blocks.specs.Slices.{Sliced}

-- in these bytes, which start somewhere in a table, a block stands that is read as compressed at the place
abbrev pub HasCompressed : ℕ → ℕ → List ℕ → Type 0
HasCompressed place start bytes = (front : ℕ) × (block_at (start + front) (drop front bytes) ≡ Err (Compressed place))

-- in one of these slices
abbrev pub HaveCompressed : ℕ → List BlockSlice → Type 0
HaveCompressed place [] = ⊥
HaveCompressed place (slice ∷ slices) = HasCompressed place slice.start slice.bytes ⊎ HaveCompressed place slices

-- in what the reader has left of its slice, or in one of those after it
abbrev pub HoldsCompressed : {V : Type 0} → ℕ → Sliced V → Type 0
HoldsCompressed place stands = HasCompressed place stands.walk.place stands.walk.rest ⊎ HaveCompressed place stands.more

-- an error that tells the place of a compressed block tells it of one that the reader has left
abbrev pub TellsHeld : {V : Type 0} → Sliced V → BlockError → Type 0
TellsHeld stands Memory = Unit {0}
TellsHeld stands Corrupt = Unit {0}
TellsHeld stands (Compressed place) = HoldsCompressed place stands

-- what it has left, it had left before
abbrev pub HeldBefore : {V : Type 0} → Sliced V → Sliced V → Type 0
HeldBefore old new = (place : ℕ) → HoldsCompressed place new → HoldsCompressed place old

-- What a call does to a reader that came neither to its end nor to an error. After an entry it still came to none, and
-- holds no compressed block that it didn't hold; an error tells the place of one that it held.
abbrev pub KeepsHeld : {V : Type 0} → Sliced V → Sliced V → Result Bool BlockError → Type 0
KeepsHeld old new (Ok true) = old.final ≡ None → (new.final ≡ None) × HeldBefore old new
KeepsHeld old new (Ok false) = Unit {0}
KeepsHeld old new (Err e) = old.final ≡ None → TellsHeld old e

-- it came neither to its end nor to an error, and each compressed block that it has left stands in one of these slices
abbrev pub HoldsSlices : {V : Type 0} → List BlockSlice → Sliced V → Type 0
HoldsSlices slices stands = (stands.final ≡ None) × ((place : ℕ) → HoldsCompressed place stands → HaveCompressed place slices)
