use Rattle.std.proofs.Common.{length}
use Rattle.std.specs.Vec.Iter.{into_iter_items}
use Rattle.sstable_blocks.specs.BlockReader.{onto_bytes}
use Rattle.sstable_blocks.proofs.LeavingLaws.{Leaving}
use Rattle.sstable_blocks.proofs.block_reader.BlockReader.leave_block.Given as goal

abbrev pub invariant-loop-self : goal.invariant-loop-self
invariant-loop-self l =
    Leaving l.self-inside.start l.self-inside.begin l.self-inside.at l.self-inside.next l.self-inside.reader (into_iter_items l.self-inside.next_slices) l.self-inside.first_ordinal
    (onto_bytes l.fn.self.rest l.fn.self.place l.fn.self.more l.fn.self.ordinal)

abbrev pub decreases-loop-self : goal.decreases-loop-self
decreases-loop-self l = length (into_iter_items l.self-inside.next_slices)
