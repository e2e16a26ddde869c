-- A line 'unfolding computes' lets the definitions of this crate compute.
use Rattle.sstable_values.specs.Computes as values
use Rattle.sstable_blocks.specs.Delta.{delta_at}
use Rattle.sstable_blocks.specs.Block.{keys_after, keys_of, paired, block_of}
use Rattle.sstable_blocks.specs.Content.{block_at}
use Rattle.sstable_blocks.specs.Run.{blocks_after, whole_run_of, run_of}

unfoldable pub computes : Unit {0}
unfolding values.computes delta_at keys_after keys_of paired block_of block_at blocks_after whole_run_of run_of
computes = tt
