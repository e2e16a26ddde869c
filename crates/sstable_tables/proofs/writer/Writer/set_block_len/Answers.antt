use Rattle.sstable_tables.proofs.Closing.{made-len}
use Rattle.sstable_tables.proofs.writer.Writer.set_block_len.Goals as goal

pub returns : goal.returns
returns g c = rw (← c.self.view_is) (made-len g.T.ValueWriter.codec c.self.inside.delta_writer c.set_block_len.new.self c.self.inside.index_builder c.self.inside.previous_key.items c.self.inside.num_terms c.self.inside.first_ordinal c.self.inside.refusal c.args.block_len c.set_block_len.ensures)
