use Rattle.sstable_blocks.proofs.WritingLaws.{counted-on, on-and-on}
use Rattle.sstable_blocks.proofs.delta_writer.write_block.Goals as goal

pub returns-clause-later : goal.returns-clause-later
returns-clause-later g c small =
    let first = counted-on _ _ _ c.in_ok-write_all.ensures.count small in
    on-and-on _ _ _ first (c.write_both.ensures.later first.1)
