-- Where a reader over several slices of a table stands, and what entries it has left.
use Rattle.std.specs.Prelude.{◌≡◌, ℕ, ◌+◌, ◌^◌, ◌<◌, List, [], ◌∷◌, ◌++◌, length, unwrap_or, Bool, true, false, Option, Some, None, IsSome, MatchOption, Result, Ok, Err, ◌==◌, ◌⊎◌}
use Rattle.owned_bytes.specs.Front.{◌>>=◌, provided, pieces}
use Rattle.owned_bytes.specs.Keys.{Key, shared}
use Rattle.sstable_values.specs.declared.errors.BlockError.{BlockError}
use Rattle.sstable_values.specs.declared.errors.BlockError.TheVariants.{Memory}
use Rattle.sstable_blocks.specs.declared.block_reader.BlockSlice.{BlockSlice}
use Rattle.sstable_values.specs.Codec.{Codec}
use Rattle.sstable_blocks.specs.Block.{key_after}
use Rattle.sstable_blocks.specs.Run.{front_of_blocks, entries_of}
unfoldable use Rattle.sstable_blocks.specs.Run.{whole_run_of, run_of}
use Rattle.sstable_blocks.specs.BlockReader.{State, bytes_in}
unfoldable use Rattle.sstable_blocks.specs.BlockReader.{onto_bytes}
use Rattle.sstable_blocks.specs.Entries.{Entry, Walk, IsFresh, TakesFirst, step, MemoryOr}
unfoldable use Rattle.sstable_blocks.specs.Entries.{entries_left}
use Rattle.sstable_blocks.specs.Placed.{Placed}
unfoldable use Rattle.sstable_blocks.specs.Placed.{placed_from}

-- the entries of a slice that goes on to its end
unfoldable pub full_run_of : {V : Type 0} → Codec V → List ℕ → Option (List (Key × V))
full_run_of codec bytes = do
  run ← whole_run_of codec bytes
  _ ← provided (length run.rest == 0)
  Some (entries_of run.blocks)

-- the entries of one run, the first of which has this position
abbrev pub placed_run : {V : Type 0} → Codec V → ℕ → List ℕ → Option (List (Placed V))
placed_run codec first bytes = do
  entries ← run_of codec bytes
  placed_from first entries

-- the entries of slices, one slice after the other; each but the last goes on to its end
unfoldable pub placed_in : {V : Type 0} → Codec V → List BlockSlice → Option (List (Placed V))
placed_in codec [] = Some []
placed_in codec (slice ∷ []) = placed_run codec slice.first_ordinal slice.bytes
placed_in codec (slice ∷ next ∷ slices) = do
  entries ← full_run_of codec slice.bytes
  here ← placed_from slice.first_ordinal entries
  others ← placed_in codec (next ∷ slices)
  Some (here ++ others)

-- Where a reader of slices stands.
pub record Sliced (V : Type 0) : Type 0 where
  -- in its slice
  pub walk : Walk V
  -- the slices after its own
  pub more : List BlockSlice
  -- the first position of the slice that it came to last, as long as that wasn't asked for
  pub ordinal : Option ℕ
  -- the answer that each later call gives, where it came to the end or an error
  pub final : Option (Result Bool BlockError)

-- the entries that are left in the slice that the reader is in, and in those after it
unfoldable pub placed_over : {V : Type 0} → Codec V → Option Key → ℕ → Walk V → List BlockSlice → Option (List (Placed V))
placed_over codec before first walk [] = do
  entries ← entries_left codec before walk
  placed_from first entries
placed_over codec before first walk (slice ∷ slices) = do
  entries ← entries_left codec before walk
  here ← placed_from first entries
  contents ← pieces front_of_blocks walk.rest
  _ ← provided (length contents.1 == 0)
  others ← placed_in codec (slice ∷ slices)
  Some (here ++ others)

-- The position of the next entry: that of its slice, where the reader came to a slice, and else the one after the last.
abbrev pub position : Option ℕ → ℕ → ℕ
position ordinal next = unwrap_or ordinal next

-- no entry is left at the end, and after an error nothing is said of them
abbrev pub unless_final : {A : Type 0} → Option (Result Bool BlockError) → Option (List A) → Option (List A)
unless_final None entries = entries
unless_final (Some (Ok more)) entries = Some []
unless_final (Some (Err e)) entries = None

-- the entries that a reader of one slice has left after the key before
abbrev pub entries_here : {V : Type 0} → Codec V → Option Key → Sliced V → Option (List (Key × V))
entries_here codec before stands = unless_final stands.final (entries_left codec before stands.walk)

-- The entries that a reader has left after the key before, of which the next one has this position unless it begins a
-- slice. There are none to speak of where a slice is no run, or another one than the last doesn't go on to its end, or
-- where a position needs more than 64 bits.
abbrev pub entries_over : {V : Type 0} → Codec V → Option Key → ℕ → Sliced V → Option (List (Placed V))
entries_over codec before next stands =
    unless_final stands.final (placed_over codec before (position stands.ordinal next) stands.walk stands.more)

-- The first of these entries is the current one, at the position that the slice or the count gives it, and the others are
-- still to come.
pub record TakesPlaced {V : Type 0} (codec : Codec V) (before : Option Key) (next : ℕ) (entries : List (Placed V)) (new : Sliced V) : Type 0 where
  pub entry : Entry V
  pub key : Key
  pub others : List (Placed V)
  pub small : position new.ordinal next < 2 ^ 64
  pub first : entries ≡ (position new.ordinal next, (key, entry.value)) ∷ others
  pub current : new.walk.current ≡ Some entry
  pub made : key_after (unwrap_or before []) entry.delta ≡ key
  -- what the key keeps is all that it shares with the key before, or nothing where a block begins
  pub keeps : (entry.delta.keep ≡ 0) ⊎ (entry.delta.keep ≡ shared (unwrap_or before []) key)
  pub left : entries_over codec (Some key) (position new.ordinal next + 1) (record new { ordinal = None }) ≡ Some others

-- what a call gave of the entries that were to come
abbrev pub GivesPlaced : {V : Type 0} → Codec V → Option Key → ℕ → List (Placed V) → Sliced V → Result Bool BlockError → Type 0
GivesPlaced codec before next entries new (Ok true) = TakesPlaced codec before next entries new
GivesPlaced codec before next entries new (Ok false) = entries ≡ []
GivesPlaced codec before next entries new (Err e) = e ≡ Memory

-- whatever entries were to come, a call gave the first of them, or answered that there is none
abbrev pub GivesEntries : {V : Type 0} → Codec V → Sliced V → Sliced V → Result Bool BlockError → Type 0
GivesEntries {V} codec old new result =
    (before : Option Key) (next : ℕ) (entries : List (Placed V)) → entries_over codec before next old ≡ Some entries
    → GivesPlaced codec before next entries new result

-- what a call gave of the entries of one slice that were to come
abbrev pub GivesFirst : {V : Type 0} → Codec V → Option Key → List (Key × V) → Sliced V → Result Bool BlockError → Type 0
GivesFirst codec before entries new (Ok true) = TakesFirst codec before entries new.walk × (new.more ≡ [])
GivesFirst codec before entries new (Ok false) = entries ≡ []
GivesFirst codec before entries new (Err e) = e ≡ Memory

-- the same of a reader of one slice, whatever its positions
abbrev pub GivesHere : {V : Type 0} → Codec V → Sliced V → Sliced V → Result Bool BlockError → Type 0
GivesHere {V} codec old new result =
    (before : Option Key) (entries : List (Key × V)) → old.more ≡ [] → entries_here codec before old ≡ Some entries
    → GivesFirst codec before entries new result

-- A reader that gave no entry yet, of all blocks that a reader of blocks has.
pub record Begins {V : Type 0} (codec : Codec V) (stands : Sliced V) (blocks : State) : Type 0 where
  pub fresh : IsFresh codec stands.walk blocks.rest blocks.place
  pub slices : stands.more ≡ blocks.more
  pub first : stands.ordinal ≡ blocks.ordinal
  pub no_answer : stands.final ≡ None

-- a reader gives the entries of these slices
abbrev pub HasEntriesOf : {V : Type 0} → Codec V → List BlockSlice → Sliced V → Type 0
HasEntriesOf {V} codec slices stands =
    (next : ℕ) (entries : List (Placed V)) → placed_in codec slices ≡ Some entries → entries_over codec None next stands ≡ Some entries

-- the slice in which the next entry is looked for: the next one, as long as nothing is left of this one
abbrev pub in_slice : {V : Type 0} → Sliced V → List ℕ → Sliced V
in_slice stands (b ∷ deltas) = stands
in_slice {V} stands [] = let left = onto_bytes stands.walk.rest stands.walk.place stands.more stands.ordinal in
    let walk : Walk V = record stands.walk { rest = left.rest; place = left.place } in
    record stands { walk = walk; more = left.more; ordinal = left.ordinal }

-- where a reader stands in the slice that its next entry is looked for in
abbrev pub ready : {V : Type 0} → Sliced V → Sliced V
ready stands = in_slice stands stands.walk.deltas

-- a step within a slice
abbrev pub StepsIn : {V : Type 0} → Codec V → Sliced V → Sliced V → Result Bool BlockError → Type 0
StepsIn codec old new (Ok true) = (step codec old.walk ≡ Ok (Some new.walk)) × (new.more ≡ old.more) × (new.ordinal ≡ old.ordinal)
StepsIn codec old new (Ok false) = step codec old.walk ≡ Ok None
StepsIn codec old new (Err e) = MemoryOr e (step codec old.walk ≡ Err e)

-- a step over slices
abbrev pub Steps : {V : Type 0} → Codec V → Sliced V → Sliced V → Result Bool BlockError → Type 0
Steps codec old new result = StepsIn codec (ready old) new result

-- the step that a call takes, where neither the end nor an error came before
abbrev pub StepsUnlessFinal : {V : Type 0} → Codec V → Sliced V → Sliced V → Result Bool BlockError → Type 0
StepsUnlessFinal codec old new result = old.final ≡ None → Steps codec old new result

-- the slice is this one, and it was asked for its first position as before
abbrev pub IsInSlice : {V : Type 0} → Sliced V → Sliced V → Type 0
IsInSlice there new = (new.more ≡ there.more) × (new.ordinal ≡ there.ordinal)

-- the same after a call, where neither the end nor an error came before
abbrev pub IsInSliceUnlessFinal : {V : Type 0} → Sliced V → Sliced V → Type 0
IsInSliceUnlessFinal old new = old.final ≡ None → IsInSlice (ready old) new

-- There is a current entry after true alone. The end and an error stay.
abbrev pub Stays : {V : Type 0} → Sliced V → Result Bool BlockError → Type 0
Stays new (Ok true) = (IsSome new.walk.current) × (new.final ≡ None)
Stays new (Ok false) = (new.walk.current ≡ None) × (new.final ≡ Some (Ok false))
Stays new (Err e) = (new.walk.current ≡ None) × (new.final ≡ Some (Err e))

-- where an answer stays, each later call gives it and changes nothing
abbrev pub AnswersFinal : {V : Type 0} → Sliced V → Sliced V → Result Bool BlockError → Type 0
AnswersFinal old new result = MatchOption old.final (Unit {0}) (λ answer. (result ≡ answer) × (new ≡ old))

-- the bytes that are left; their number falls with each entry
abbrev pub bytes_left : {V : Type 0} → Sliced V → ℕ
bytes_left stands = length stands.walk.deltas + (length stands.walk.rest + bytes_in stands.more)
