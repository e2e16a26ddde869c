-- How a reader goes over the entries of blocks.
use Rattle.std.specs.Prelude.{◌≡◌, ℕ, ◌+◌, List, [], ◌∷◌, ◌++◌, length, unwrap_or, Option, Some, None, Result, Ok, Err, ◌⊎◌}
use Rattle.owned_bytes.specs.Front.{◌>>=◌, pieces}
use Rattle.owned_bytes.specs.Keys.{Key, shared}
use Rattle.sstable_values.specs.declared.errors.BlockError.{BlockError}
use Rattle.sstable_values.specs.declared.errors.BlockError.TheVariants.{Memory, Corrupt}
use Rattle.sstable_values.specs.Values.{Values, value_at, values_from}
use Rattle.sstable_values.specs.Codec.{Codec, no_values}
use Rattle.sstable_blocks.specs.Content.{Found, head_len}
unfoldable use Rattle.sstable_blocks.specs.Content.{block_at}
use Rattle.sstable_blocks.specs.Delta.{Delta}
unfoldable use Rattle.sstable_blocks.specs.Delta.{delta_at}
use Rattle.sstable_blocks.specs.Block.{front_of_deltas, key_after, keys_after, paired}
use Rattle.sstable_blocks.specs.Run.{front_of_blocks, last_key, blocks_after, entries_of}

-- An entry as a reader gives it: what its key keeps of the key before and adds to that, and its value.
pub record Entry (V : Type 0) : Type 0 where
  pub delta : Delta
  pub value : V

-- Where a reader of entries stands.
pub record Walk (V : Type 0) : Type 0 where
  -- the current entry, where there is one
  pub current : Option (Entry V)
  -- the values of its block, and how many entries of the block it gave
  pub values : Values V
  pub given : ℕ
  -- the bytes of the block after these
  pub deltas : List ℕ
  -- the bytes after the block, and where they stand in the table
  pub rest : List ℕ
  pub place : ℕ

-- a reader that gave no entry yet
pub record IsFresh {V : Type 0} (codec : Codec V) (walk : Walk V) (reader : List ℕ) (at : ℕ) : Type 0 where
  pub no_entry : walk.current ≡ None
  pub no_value : walk.values ≡ no_values codec
  pub none_given : walk.given ≡ 0
  pub no_delta : walk.deltas ≡ []
  pub bytes : walk.rest ≡ reader
  pub start : walk.place ≡ at

-- the next entry of a block, and the bytes after it
abbrev pub entry_at : {V : Type 0} → Values V → ℕ → List ℕ → Option (Entry V × List ℕ)
entry_at values given deltas = do
  found ← delta_at deltas
  value ← value_at values given
  Some (record { delta = found.0; value = value }, found.1)

-- A step: to where the reader then stands, to the end, or to an error.
abbrev pub Step : Type 0 → Type 0
Step V = Result (Option (Walk V)) BlockError

-- to the entry
abbrev pub to_entry : {V : Type 0} → Walk V → Option (Entry V × List ℕ) → Step V
to_entry walk None = Err Corrupt
to_entry walk (Some found) = Ok (Some (record walk { current = Some found.0; given = walk.given + 1; deltas = found.1 }))

-- to the next entry of the block
abbrev pub within_block : {V : Type 0} → Walk V → Step V
within_block walk = to_entry walk (entry_at walk.values walk.given walk.deltas)

-- to the first entry of a block whose values were read
abbrev pub to_first : {V : Type 0} → Walk V → Option (Values V × List ℕ) → Step V
to_first walk None = Err Corrupt
to_first walk (Some found) = within_block (record walk { values = found.0; given = 0; deltas = found.1 })

-- to the first entry of the block that was found
abbrev pub to_block : {V : Type 0} → Codec V → Walk V → Found → Step V
to_block codec walk (Err e) = Err e
to_block codec walk (Ok None) = Ok None
to_block codec walk (Ok (Some found)) =
    to_first (record walk { rest = found.1; place = walk.place + (head_len + length found.0) }) (codec.values_of found.0)

-- to the next entry: in the block as long as it has bytes left, and then in the next block
abbrev pub onward : {V : Type 0} → Codec V → Walk V → List ℕ → Step V
onward codec walk [] = to_block codec walk (block_at walk.place walk.rest)
onward codec walk (b ∷ bytes) = within_block walk

-- the step that a reader takes
abbrev pub step : {V : Type 0} → Codec V → Walk V → Step V
step codec walk = onward codec walk walk.deltas

-- it comes by this, or is want of memory
abbrev pub MemoryOr : BlockError → Type 0 → Type 0
MemoryOr Memory P = Unit {0}
MemoryOr e P = P

-- the last key of these entries, or else the key before them
abbrev pub last_or : {V : Type 0} → Option Key → List (Key × V) → Option Key
last_or before [] = before
last_or before (entry ∷ entries) = last_key (entry ∷ entries)

-- The entries that are still to come after the key of the current entry, where there is one: those of its block, and
-- those of the run that follows. None are where that is no run.
unfoldable pub entries_left : {V : Type 0} → Codec V → Option Key → Walk V → Option (List (Key × V))
entries_left codec before walk = do
  deltas ← pieces front_of_deltas walk.deltas
  keys ← keys_after (unwrap_or before []) deltas.0
  here ← paired keys (values_from walk.given walk.values)
  contents ← pieces front_of_blocks walk.rest
  blocks ← blocks_after codec (last_or before here) contents.0
  Some (here ++ entries_of blocks)

-- The first of these entries is the current one, after the key before it, and the others are still to come.
pub record TakesFirst {V : Type 0} (codec : Codec V) (before : Option Key) (entries : List (Key × V)) (new : Walk V) : Type 0 where
  pub entry : Entry V
  pub key : Key
  pub others : List (Key × V)
  pub first : entries ≡ (key, entry.value) ∷ others
  pub current : new.current ≡ Some entry
  pub made : key_after (unwrap_or before []) entry.delta ≡ key
  -- what the key keeps is all that it shares with the key before, or nothing where a block begins
  pub keeps : (entry.delta.keep ≡ 0) ⊎ (entry.delta.keep ≡ shared (unwrap_or before []) key)
  pub left : entries_left codec (Some key) new ≡ Some others
