use Rattle.sstable_tables.proofs.Inserting.{keeps-list-by, stays-small-by}
use Rattle.sstable_tables.proofs.writer.Writer.flush_block_if_required.Goals as goal

pub returns-clause-list : goal.returns-clause-list
returns-clause-list g c = keeps-list-by g.T.ValueWriter.codec g.W.Sink.written c.args.self.now c.close.new.self c.close.result c.close.ensures.closes

pub returns-clause-small : goal.returns-clause-small
returns-clause-small g c = stays-small-by g.T.ValueWriter.codec g.W.Sink.written c.args.self.now c.close.new.self c.close.result c.close.ensures.closes
