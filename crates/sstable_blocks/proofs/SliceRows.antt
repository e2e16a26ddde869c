-- Worked rows of the entries of slices.
use Rattle.std.proofs.Common.{◌≡◌, ℕ, List, [], ◌∷◌, Some, None, refl}
use Rattle.owned_bytes.specs.Front.{counted, pieces_upto, pieces}
use Rattle.sstable_values.specs.Vint.{groups_at, vint_at}
use Rattle.sstable_values.specs.Codec.{void}
use Rattle.sstable_blocks.specs.Delta.{delta_at}
use Rattle.sstable_blocks.specs.Block.{keys_after, keys_of, paired, block_of}
use Rattle.sstable_blocks.specs.Content.{block_at}
use Rattle.sstable_blocks.specs.Run.{blocks_after, whole_run_of, run_of}
use Rattle.sstable_blocks.specs.declared.block_reader.BlockSlice.{BlockSlice}
use Rattle.sstable_blocks.specs.Placed.{placed_from}
use Rattle.sstable_blocks.specs.Slices.{full_run_of, placed_in}

-- a block whose one key is the byte
unfoldable block : ℕ → List ℕ
block b = 3 ∷ 0 ∷ 0 ∷ 0 ∷ 0 ∷ 16 ∷ b ∷ []

unfoldable slice : List ℕ → ℕ → ℕ → BlockSlice
slice bytes first start = record { bytes = bytes; first_ordinal = first; start = start }

-- an empty slice between two has no entries
gap-row : placed_in void (slice (block 97) 0 0 ∷ slice [] 5 7 ∷ slice (block 98) 9 30 ∷ []) ≡ Some ((0, (97 ∷ [], tt)) ∷ (9, (98 ∷ [], tt)) ∷ [])
unfolding counted pieces_upto pieces groups_at vint_at void delta_at keys_after keys_of paired block_of block_at blocks_after whole_run_of run_of placed_from full_run_of placed_in block slice
gap-row = refl

-- a length word of 0 ends the last slice, and no other
last-row : placed_in void (slice (block 97) 0 0 ∷ slice (0 ∷ 0 ∷ 0 ∷ 0 ∷ []) 1 7 ∷ []) ≡ Some ((0, (97 ∷ [], tt)) ∷ [])
unfolding counted pieces_upto pieces groups_at vint_at void delta_at keys_after keys_of paired block_of block_at blocks_after whole_run_of run_of placed_from full_run_of placed_in block slice
last-row = refl

inner-row : placed_in void (slice (0 ∷ 0 ∷ 0 ∷ 0 ∷ []) 0 0 ∷ slice (block 97) 1 7 ∷ []) ≡ None
unfolding counted pieces_upto pieces groups_at vint_at void delta_at keys_after keys_of paired block_of block_at blocks_after whole_run_of run_of placed_from full_run_of placed_in block slice
inner-row = refl

-- keys that fall from one slice to the next are listed all the same: that they rise is asked apart
falling-row : placed_in void (slice (block 98) 0 0 ∷ slice (block 97) 1 7 ∷ []) ≡ Some ((0, (98 ∷ [], tt)) ∷ (1, (97 ∷ [], tt)) ∷ [])
unfolding counted pieces_upto pieces groups_at vint_at void delta_at keys_after keys_of paired block_of block_at blocks_after whole_run_of run_of placed_from full_run_of placed_in block slice
falling-row = refl
