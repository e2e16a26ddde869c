use Rattle.std.proofs.Common.{Some, ap, ◌∙◌, arith}
use Rattle.sstable_index.proofs.RunsV2.{begun, finished, finish-err}
use Rattle.sstable_index.proofs.builder_v2.write_entries.Goals as goal

pub loop-i-init : goal.loop-i-init
loop-i-init c =
    begun c.args.builder.now c.new-writer.result (c.new-writer.ensures.written ∙ ap Some c.new.ensures) c.new-writer.ensures.no_delta c.new-writer.ensures.no_value c.new-writer.ensures.block_len c.new-writer.ensures.entries

pub returns-in-Ok-flush_block-clause-ok : goal.returns-in-Ok-flush_block-clause-ok
returns-in-Ok-flush_block-clause-ok c =
    finished c.args.builder.now c.loop-i.i c.loop-i.last.now c.loop-i.writer c.flush_block.new.self c.in-Ok-flush_block.field-0 _ c.loop-i.invariant (omega (arith, c.loop-i-test.false, c.len-i-end.ensures)) c.requires.rising
    c.in-Ok-flush_block.ensures.flushes c.in-Ok-flush_block.ensures.run (ap Some c.finish-in-Ok-flush_block.ensures ∙ c.finish.ensures.written)

pub returns-in-Err-flush_block-clause-err : goal.returns-in-Err-flush_block-clause-err
returns-in-Err-flush_block-clause-err c =
    c.in_memory.ensures (finish-err c.args.builder.now c.loop-i.i c.loop-i.last.now c.loop-i.writer c.flush_block.new.self c.in-Err-flush_block.e c.loop-i.invariant c.in-Err-flush_block.ensures.flushes)
