use Rattle.sstable_blocks.proofs.WritingLaws.{entry_added}
use Rattle.sstable_blocks.proofs.delta_writer.DeltaWriter.write_entry.Goals as goal

pub returns-else-is_err-clause-entries : goal.returns-else-is_err-clause-entries
returns-else-is_err-clause-entries g c =
    entry_added c.write_value-written.result _ _ _ _ _ _ c.in_ok-write_suffix.ensures.ok c.write_value-written.ensures.others c.write_value-written.ensures.ok
