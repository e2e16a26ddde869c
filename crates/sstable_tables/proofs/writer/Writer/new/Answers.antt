use Rattle.std.proofs.Common.{◌∙◌, ap, sym}
use Rattle.sstable_tables.proofs.Gathering.{making-none, begins-none, small-none}
use Rattle.sstable_tables.proofs.writer.Writer.new.Goals as goal

pub invariant_of-result : goal.invariant_of-result
invariant_of-result g c =
    rw (c.new.ensures.items, c.new-4.ensures) (making-none g.T.ValueWriter.codec g.W.Sink.written g.W.Sink.faults c.new-3.result c.new-3.ensures.entries c.new-3.ensures.no_value c.new-3.ensures.counted
    (c.new-3.ensures.written ∙ ap g.W.Sink.written (sym c.new-3.ensures.sink)) (c.new-3.ensures.faults ∙ ap g.W.Sink.faults (sym c.new-3.ensures.sink)))

pub returns-clause-begins : goal.returns-clause-begins
returns-clause-begins g c = rw c.new-4.ensures (begins-none g.T.ValueWriter.codec c.new-3.result c.new.result.items c.args.wrt c.new-3.ensures.entries c.new-3.ensures.sink c.new-3.ensures.counted c.new-3.ensures.block_len)

pub returns-clause-small : goal.returns-clause-small
returns-clause-small g c = rw c.new-4.ensures (small-none g.T.ValueWriter.codec c.new-3.result c.new.result.items c.args.wrt c.new-3.ensures.entries c.new-3.ensures.counted)
