use Rattle.sstable_blocks.specs.BlockReader.{bytes_of}
use Rattle.sstable_index.proofs.ReadingRuns.{IsReading}
use Rattle.sstable_index.proofs.run_v2.read_run.Given as goal

abbrev pub invariant-reading : goal.invariant-reading
invariant-reading l = IsReading l.fn.data l.keys l.addresses.items l.end l.blocks

abbrev pub decreases-reading : goal.decreases-reading
decreases-reading l = bytes_of l.blocks
