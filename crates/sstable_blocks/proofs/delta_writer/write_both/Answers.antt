use Rattle.sstable_blocks.proofs.WritingLaws.{counted-on, counts-on, on-and-on}
use Rattle.sstable_blocks.proofs.delta_writer.write_both.Goals as goal

pub returns-clause-later : goal.returns-clause-later
returns-clause-later g c small =
    let first = counted-on _ _ _ c.in_ok-write_all.ensures.count small in
    on-and-on _ _ _ first (counts-on c.write_all-2.result _ _ _ c.write_all-2.ensures.count first.1)
