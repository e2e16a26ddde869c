-- Blocks one after the other.
use Rattle.std.specs.Prelude.{List, [], ◌∷◌, unwrap_or, Bool, true, false, Option, Some, None, Ok, Err, if◌then◌else◌, ℕ}
use Rattle.std.specs.List.{flat_map}
use Rattle.owned_bytes.specs.Front.{◌>>=◌, provided, Front, End, Piece, Fault, pieces}
use Rattle.owned_bytes.specs.Keys.{Key, is_below}
use Rattle.sstable_values.specs.Codec.{Codec}
use Rattle.sstable_blocks.specs.Content.{Found}
unfoldable use Rattle.sstable_blocks.specs.Content.{block_at}
use Rattle.sstable_blocks.specs.Block.{block_of}

-- what was found, as a piece of a sequence
abbrev pub block_or_end : Found → Front (List ℕ)
block_or_end (Ok None) = End
block_or_end (Ok (Some found)) = Piece found.0 found.1
block_or_end (Err e) = Fault

-- blocks go on to a length of 0 or 1, or to the end of the bytes
abbrev pub front_of_blocks : List ℕ → Front (List ℕ)
front_of_blocks bytes = block_or_end (block_at 0 bytes)

-- the key of the last entry
abbrev pub last_key : {V : Type 0} → List (Key × V) → Option Key
last_key [] = None
last_key (entry ∷ []) = Some entry.0
last_key (entry ∷ next ∷ entries) = last_key (next ∷ entries)

-- the first key comes after the key before, where there is one
abbrev pub may_follow : {V : Type 0} → Option Key → List (Key × V) → Bool
may_follow None entries = true
may_follow (Some before) [] = false
may_follow (Some before) (entry ∷ entries) = is_below before entry.0

-- A block: its content and its entries.
pub record Block (V : Type 0) : Type 0 where
  pub content : List ℕ
  pub entries : List (Key × V)

-- A run of blocks, and the bytes from its end on.
pub record Run (V : Type 0) : Type 0 where
  pub blocks : List (Block V)
  pub rest : List ℕ

-- the key that a block's first key may go on from
abbrev pub key_before : {V : Type 0} → Codec V → Option Key → Key
key_before codec before = if codec.goes_on then unwrap_or before [] else []

-- the blocks with these contents, after the last key before them, where there is one
unfoldable pub blocks_after : {V : Type 0} → Codec V → Option Key → List (List ℕ) → Option (List (Block V))
blocks_after codec before [] = Some []
blocks_after codec before (content ∷ contents) = do
  entries ← block_of codec (key_before codec before) content
  _ ← provided (may_follow before entries)
  others ← blocks_after codec (last_key entries) contents
  Some (record { content = content; entries = entries } ∷ others)

unfoldable pub whole_run_of : {V : Type 0} → Codec V → List ℕ → Option (Run V)
whole_run_of codec bytes = do
  contents ← pieces front_of_blocks bytes
  blocks ← blocks_after codec None contents.0
  Some (record { blocks = blocks; rest = contents.1 })

-- the entries of blocks, in order
abbrev pub entries_of : {V : Type 0} → List (Block V) → List (Key × V)
entries_of blocks = flat_map (λ block. block.entries) blocks

-- the entries of a run, in order
unfoldable pub run_of : {V : Type 0} → Codec V → List ℕ → Option (List (Key × V))
run_of codec bytes = do
  run ← whole_run_of codec bytes
  Some (entries_of run.blocks)
