use Rattle.sstable_blocks.proofs.ReaderLaws.{has_place}
use Rattle.sstable_blocks.proofs.entry_reader.EntryReader.value.Goals as goal

pub value-requires : goal.value-requires
value-requires g c = has_place c.args.self.now.standing _ _ _ c.requires
