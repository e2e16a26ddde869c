-- Where a reader stands after a search, and where a compressed block stands that it came to.
use Rattle.std.specs.Prelude.{◌≡◌, ◌≤◌, ◌+◌, ◌-◌, ℕ, [], drop, ⊤, Bool, true, false, IsSome, None, Result, Ok, Err}
use Rattle.sstable_values.specs.declared.errors.BlockError.{BlockError}
use Rattle.sstable_values.specs.declared.errors.BlockError.TheVariants.{Memory, Corrupt, Compressed}
use Rattle.sstable_blocks.specs.Content.{block_at}
use Rattle.sstable_blocks.specs.Slices.{Sliced}
use Rattle.block_search.specs.declared.by_key.KeyHit.{KeyHit}
use Rattle.block_search.specs.declared.by_key.KeyHit.TheVariants.{Exact, Next}

-- in the bytes after a reader's block stands a compressed one at the place
pub record IsCompressedBehind {V : Type 0} (stands : Sliced V) (place : ℕ) : Type 0 where
  pub behind : stands.walk.place ≤ place
  pub there : block_at place (drop (place - stands.walk.place) stands.walk.rest) ≡ Err (Compressed place)

-- A reader of one slice, which gave no answer for good, answers that a block is compressed only where one stands.
abbrev pub TellsCompressed : {V : Type 0} → Sliced V → BlockError → Type 0
TellsCompressed stands Memory = ⊤
TellsCompressed stands Corrupt = ⊤
TellsCompressed stands (Compressed place) = stands.more ≡ [] → stands.final ≡ None → IsCompressedBehind stands place

-- The reader of one slice came to no end and no error, and stands so many bytes behind where it stood at the start.
pub record Going {V : Type 0} (start now : Sliced V) : Type 0 where
  pub going : now.final ≡ None
  pub one : now.more ≡ []
  pub by : ℕ
  pub place : now.walk.place ≡ start.walk.place + by
  pub rest : now.walk.rest ≡ drop by start.walk.rest

-- the same of a reader of one slice, which gave no answer for good
abbrev pub GoesOn : {V : Type 0} → Sliced V → Sliced V → Type 0
GoesOn start now = start.more ≡ [] → start.final ≡ None → Going start now

-- there is a current entry where the key was found
abbrev pub StandsWhereFound : {V : Type 0} → Sliced V → Result KeyHit BlockError → Type 0
StandsWhereFound new (Ok (Exact count)) = IsSome new.walk.current
StandsWhereFound new (Ok (Next count)) = ⊤
StandsWhereFound new (Err e) = ⊤

-- there is a current entry where the number was reached, and the reader may go on
abbrev pub StandsWhereReached : {V : Type 0} → Sliced V → Sliced V → Result Bool BlockError → Type 0
StandsWhereReached old new (Ok true) = IsSome new.walk.current × GoesOn old new
StandsWhereReached old new (Ok false) = ⊤
StandsWhereReached old new (Err e) = ⊤
