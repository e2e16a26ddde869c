use Rattle.sstable_tables.proofs.Inserting.{inserts-by, gathers-by, lengthens-by, keeps-small-by}
use Rattle.sstable_tables.proofs.writer.Writer.insert.Goals as goal

pub returns-clause-inserts : goal.returns-clause-inserts
returns-clause-inserts g c = inserts-by g.T.ValueWriter.codec g.W.Sink.written c.args.self.now c.add.new.self c.close.new.self c.args.key.now (g.T.Value.StoredValue.shown c.args.value.now) c.close.result c.in_ok-add.ensures.taken c.in_ok-add.ensures.ok c.close.ensures.closes

pub returns-clause-gathers : goal.returns-clause-gathers
returns-clause-gathers g c =
    gathers-by g.T.ValueWriter.codec g.W.Sink.written c.args.self.now c.close.new.self c.args.key.now (g.T.Value.StoredValue.shown c.args.value.now) c.close.result
    (inserts-by g.T.ValueWriter.codec g.W.Sink.written c.args.self.now c.add.new.self c.close.new.self c.args.key.now (g.T.Value.StoredValue.shown c.args.value.now) c.close.result c.in_ok-add.ensures.taken c.in_ok-add.ensures.ok c.close.ensures.closes)

pub returns-clause-list : goal.returns-clause-list
returns-clause-list g c =
    lengthens-by g.T.ValueWriter.codec g.W.Sink.written c.args.self.now c.close.new.self c.args.key.now (g.T.Value.StoredValue.shown c.args.value.now) c.close.result
    (inserts-by g.T.ValueWriter.codec g.W.Sink.written c.args.self.now c.add.new.self c.close.new.self c.args.key.now (g.T.Value.StoredValue.shown c.args.value.now) c.close.result c.in_ok-add.ensures.taken c.in_ok-add.ensures.ok c.close.ensures.closes)

pub returns-clause-small : goal.returns-clause-small
returns-clause-small g c =
    keeps-small-by g.T.ValueWriter.codec g.W.Sink.written c.args.self.now c.close.new.self c.args.key.now (g.T.Value.StoredValue.shown c.args.value.now) c.close.result
    (inserts-by g.T.ValueWriter.codec g.W.Sink.written c.args.self.now c.add.new.self c.close.new.self c.args.key.now (g.T.Value.StoredValue.shown c.args.value.now) c.close.result c.in_ok-add.ensures.taken c.in_ok-add.ensures.ok c.close.ensures.closes)
