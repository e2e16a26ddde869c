use Rattle.sstable_blocks.proofs.BlockLaws.{part-is}
use Rattle.sstable_blocks.proofs.block_reader.BlockReader.buffer_from_to.Goals as goal

pub returns : goal.returns
returns c =
    let s = c.self.inside in
    let within = rw (← c.self.view_is) at c.requires.within in
    rw (c.as_slice.ensures, ← c.self.view_is) (part-is s.begin s.next c.args.range.start c.args.range.end s.reader c.requires.ordered within)
