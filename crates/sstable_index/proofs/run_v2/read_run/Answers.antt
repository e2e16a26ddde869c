use Rattle.std.proofs.Common.{◌≡◌, ◌+◌, length, true, false, Ok, refl, subst, ◌∙◌, arith}
use Rattle.sstable_blocks.specs.BlockReader.{ReadsBlock, behind}
use Rattle.sstable_index.proofs.ReadingRuns.{reading-more, reading-ends, reading-fault, reading-block_fault}
use Rattle.sstable_index.proofs.run_v2.read_run.Goals as goal

pub returns-in-Ok-false-clause-ok : goal.returns-in-Ok-false-clause-ok
returns-in-Ok-false-clause-ok c =
    let reads = subst (λ b. ReadsBlock (behind c.reading.blocks) c.read_block.new.self (Ok b)) c.in-Ok-false.field-0-test c.in-Ok-false.ensures.read in
    reading-ends c.args.data c.reading.keys c.reading.addresses.items c.reading.end c.reading.blocks c.read_block.new.self c.reading.invariant reads

pub returns-in-Err-clause-err : goal.returns-in-Err-clause-err
returns-in-Err-clause-err c =
    reading-fault c.args.data c.reading.keys c.reading.addresses.items c.reading.end c.reading.blocks c.read_block.new.self c.in-Err.e c.from.result c.reading.invariant c.in-Err.ensures.read c.from.ensures

pub returns-in-Err-push_block-clause-err : goal.returns-in-Err-push_block-clause-err
returns-in-Err-push_block-clause-err c =
    let reads = subst (λ b. ReadsBlock (behind c.reading.blocks) c.read_block.new.self (Ok b)) c.in-Ok-true.field-0-test c.in-Ok-true.ensures.read in
    reading-block_fault c.args.data c.buffer-content.result.now c.reading.keys c.reading.addresses.items c.reading.end c.reading.blocks c.read_block.new.self c.in-Err-push_block.e c.reading.invariant reads c.buffer-content.ensures
    c.in-Err-push_block.ensures.err

pub overflow_add-end-in-reading : goal.overflow_add-end-in-reading
overflow_add-end-in-reading c =
    let reads = subst (λ b. ReadsBlock (behind c.reading.blocks) c.read_block.new.self (Ok b)) c.in-Ok-true.field-0-test c.in-Ok-true.ensures.read in
    let next = reading-more c.args.data c.buffer-content.result.now c.reading.keys c.push_block.new.keys c.reading.addresses.items c.push_block.new.addresses.items c.reading.end (c.reading.end + (5 + length c.buffer-content.result.now))
    c.reading.blocks c.read_block.new.self c.reading.invariant reads c.buffer-content.ensures c.in-Ok.ensures.ok refl in
    omega (arith, next.has.within, c.len-len.ensures, c.len-len.type_inv)

pub reading-preserved : goal.reading-preserved
reading-preserved c =
    let reads = subst (λ b. ReadsBlock (behind c.reading.blocks) c.read_block.new.self (Ok b)) c.in-Ok-true.field-0-test c.in-Ok-true.ensures.read in
    reading-more c.args.data c.buffer-content.result.now c.reading.keys c.push_block.new.keys c.reading.addresses.items c.push_block.new.addresses.items c.reading.end (c.reading.end + (5 + length c.buffer-content.result.now))
    c.reading.blocks c.read_block.new.self c.reading.invariant reads c.buffer-content.ensures c.in-Ok.ensures.ok refl
