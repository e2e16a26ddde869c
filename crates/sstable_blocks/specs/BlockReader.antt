-- What a reader of blocks shows, and what it does.
use Rattle.std.specs.Prelude.{◌≡◌, ℕ, ◌+◌, ◌<◌, ◌≤◌, ◌^◌, List, [], ◌∷◌, length, drop, Option, Some, None, Result, Ok, Err, Bool, true, false}
use Rattle.std.specs.Borrow.{Bor}
use Rattle.sstable_values.specs.declared.errors.BlockError.{BlockError}
use Rattle.sstable_blocks.specs.declared.block_reader.BlockSlice.{BlockSlice}
use Rattle.sstable_blocks.specs.Content.{Found, head_len}
unfoldable use Rattle.sstable_blocks.specs.Content.{block_at}

-- Where a reader stands in its bytes.
pub record State : Type 0 where
  -- the content of the block that it is in, empty where it is in none
  pub block : List ℕ
  -- how many bytes of the content were read
  pub offset : ℕ
  -- the bytes of its slice after the block
  pub rest : List ℕ
  -- where these stand in the table
  pub place : ℕ
  -- the slices after its own
  pub more : List BlockSlice
  -- the first ordinal of the slice that it came to last, as long as that wasn't asked for
  pub ordinal : Option ℕ

-- the bytes of the block that are left
abbrev pub unread : State → List ℕ
unread state = drop state.offset state.block

-- how many bytes of slices are left
abbrev pub bytes_in : List BlockSlice → ℕ
bytes_in [] = 0
bytes_in (slice ∷ slices) = length slice.bytes + bytes_in slices

-- how many bytes are left, of the block, the slice and the slices after it
abbrev pub bytes_of : State → ℕ
bytes_of state = length (unread state) + (length state.rest + bytes_in state.more)

-- What is left of a slice, from a place in the table on, and the slices after it.
pub record Left : Type 0 where
  pub rest : List ℕ
  pub place : ℕ
  pub more : List BlockSlice
  pub ordinal : Option ℕ

-- On to the next slice, as long as nothing is left of this one and there is another.
unfoldable pub onto_bytes : List ℕ → ℕ → List BlockSlice → Option ℕ → Left
onto_bytes rest place [] ordinal = record { rest = rest; place = place; more = []; ordinal = ordinal }
onto_bytes [] place (slice ∷ slices) ordinal = onto_bytes slice.bytes slice.start slices (Some slice.first_ordinal)
onto_bytes (b ∷ rest) place (slice ∷ slices) ordinal = record { rest = b ∷ rest; place = place; more = slice ∷ slices; ordinal = ordinal }

-- behind its block, in the slice that has the next one
abbrev pub behind : State → State
behind state = let left = onto_bytes state.rest state.place state.more state.ordinal in
    record { block = []; offset = 0; rest = left.rest; place = left.place; more = left.more; ordinal = left.ordinal }

-- before the first block of these bytes, which stand at the place in the table
abbrev pub before_bytes : List ℕ → ℕ → State
before_bytes bytes place = record { block = []; offset = 0; rest = bytes; place = place; more = []; ordinal = None }

-- before the first block of the first slice
abbrev pub before_slices : List BlockSlice → State
before_slices [] = before_bytes [] 0
before_slices (slice ∷ slices) =
    record (before_bytes slice.bytes slice.start) { more = slices; ordinal = Some slice.first_ordinal }

-- A step to the next block. At the end, or with an error, the reader stays there: the next step answers the same.
abbrev pub ReadsBlock : State → State → Result Bool BlockError → Type 0
ReadsBlock old new (Ok true) =
    (block_at old.place old.rest ≡ Ok (Some (new.block, new.rest))) × (new.offset ≡ 0) × (new.place ≡ old.place + (head_len + length new.block))
    × (new.more ≡ old.more) × (new.ordinal ≡ old.ordinal)
ReadsBlock old new (Ok false) = (block_at old.place old.rest ≡ Ok None) × (new ≡ old)
ReadsBlock old new (Err e) = (block_at old.place old.rest ≡ Err e) × (new ≡ old)

-- a function found this, seen as lists
abbrev pub IsFound : Result (Option (Bor (List ℕ) × Bor (List ℕ))) BlockError → Found → Type 0
IsFound (Ok None) found = found ≡ Ok None
IsFound (Ok (Some parts)) found = found ≡ Ok (Some (parts.0.now, parts.1.now))
IsFound (Err e) found = found ≡ Err e

-- each slice lies in a table of less than 2^64 bytes
abbrev pub AreWithin : List BlockSlice → Type 0
AreWithin [] = Unit {0}
AreWithin (slice ∷ slices) = (slice.start + length slice.bytes < 2 ^ 64) × AreWithin slices

-- A block from begin to next of so many bytes, read up to at, whose bytes begin at start in the table; and the slices after.
pub record InOrder (start begin at next len : ℕ) (more : List BlockSlice) : Type 0 where
  pub begun : begin ≤ at
  pub unread : at ≤ next
  pub within : next ≤ len
  pub placed : start + len < 2 ^ 64
  pub others : AreWithin more
