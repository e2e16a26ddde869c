use Rattle.sstable_blocks.proofs.WritingLaws.{open-none}
use Rattle.sstable_blocks.proofs.delta_writer.DeltaWriter.new.Goals as goal

pub returns-clause-entries : goal.returns-clause-entries
returns-clause-entries g c = open-none g.T.ValueWriter.codec _ c.new.ensures.items c.new-2.ensures
