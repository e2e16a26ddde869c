-- What the parts of a step over entries do to a reader of blocks.
use Rattle.std.specs.Prelude.{◌≡◌, ℕ, ◌+◌, ◌≤◌, length, Some, None, Result, Ok, Err, Bool, true, false, slice_range}
use Rattle.sstable_values.specs.declared.errors.BlockError.{BlockError}
use Rattle.sstable_values.specs.Values.{Values}
use Rattle.sstable_values.specs.Codec.{Codec}
use Rattle.sstable_blocks.specs.BlockReader.{State, unread}
use Rattle.sstable_blocks.specs.Content.{head_len}
unfoldable use Rattle.sstable_blocks.specs.Content.{block_at}
unfoldable use Rattle.sstable_blocks.specs.Delta.{delta_at}
use Rattle.sstable_blocks.specs.Entries.{Walk, MemoryOr, to_block}

-- Into the next block of a slice, whose values are read.
abbrev pub EntersBlock : {V : Type 0} → Codec V → State → State → Values V → Values V → Result Bool BlockError → Type 0
EntersBlock codec old new before values (Ok true) =
    (block_at old.place old.rest ≡ Ok (Some (new.block, new.rest))) × (codec.values_of new.block ≡ Some (values, unread new))
    × (new.place ≡ old.place + (head_len + length new.block)) × (new.more ≡ old.more) × (new.ordinal ≡ old.ordinal)
EntersBlock codec old new before values (Ok false) = (block_at old.place old.rest ≡ Ok None) × (new ≡ old) × (values ≡ before)
EntersBlock {V} codec old new before values (Err e) =
    MemoryOr e ((walk : Walk V) → to_block codec walk (block_at old.place old.rest) ≡ Err e)

-- The delta at the front of the block's rest: what it keeps, and where the bytes that it adds stand in the block.
pub record TakesDelta (old new : State) (keep begin end : ℕ) : Type 0 where
  pub delta : delta_at (unread old) ≡ Some (record { keep = keep; suffix = slice_range new.block begin end }, unread new)
  pub ordered : begin ≤ end
  pub within : end ≤ length new.block
  pub shorter : 1 + length (unread new) ≤ length (unread old)
  pub same : new ≡ record old { offset = new.offset }
