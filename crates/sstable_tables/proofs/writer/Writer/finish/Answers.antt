use Rattle.std.proofs.Common.{◌∙◌, ap}
use Rattle.sstable_tables.proofs.Finishing.{finish-made, stop-made}
use Rattle.sstable_tables.proofs.writer.Writer.finish.Goals as goal

pub returns-in-Ok-clause-finishes : goal.returns-in-Ok-clause-finishes
returns-in-Ok-clause-finishes g c =
    rw (← c.writer.view_is) (finish-made g.T.ValueWriter.codec g.W.Sink.written g.W.Sink.faults c.writer.inside.delta_writer c.set_block_len.new.self c.writer.inside.index_builder c.writer.inside.previous_key.items
    c.writer.inside.num_terms c.writer.inside.first_ordinal c.writer.inside.refusal c.close-closed.new.self _ _ _ _ c.finish_table.result c.writer.invariant c.set_block_len.ensures c.in-Ok.ensures.closes c.in-Ok.ensures.blocks
    c.parts-wrt.ensures.fits c.parts-wrt.ensures.few (ap g.W.Sink.written c.parts-wrt.ensures.sink) c.parts-wrt.ensures.index c.parts-wrt.ensures.counted c.parts-wrt.ensures.count
    c.finish_table.ensures.bytes c.finish_table.ensures.told c.finish_table.ensures.error)

pub returns-clause-finishes : goal.returns-clause-finishes
returns-clause-finishes g c =
    rw (← c.writer.view_is) (stop-made g.T.ValueWriter.codec g.W.Sink.written g.W.Sink.faults c.writer.inside.delta_writer c.set_block_len.new.self c.writer.inside.index_builder c.writer.inside.previous_key.items
    c.writer.inside.num_terms c.writer.inside.first_ordinal c.writer.inside.refusal c.close-closed.new.self _ c.in-Err.error c.writer.invariant c.set_block_len.ensures c.in-Err.ensures.closes
    (ap g.W.Sink.written (c.finish.ensures ∙ c.parts-wrt.ensures.sink)))
