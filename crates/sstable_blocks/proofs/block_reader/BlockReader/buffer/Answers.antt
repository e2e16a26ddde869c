use Rattle.sstable_blocks.proofs.BlockLaws.{unread-is}
use Rattle.sstable_blocks.proofs.block_reader.BlockReader.buffer.Goals as goal

pub returns : goal.returns
returns c =
    let s = c.self.inside in
    rw (c.as_slice.ensures, ← c.self.view_is) (unread-is s.begin s.at s.next s.reader c.self.invariant.begun c.self.invariant.unread)
