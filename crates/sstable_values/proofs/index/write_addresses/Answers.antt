use Rattle.std.proofs.Common.{Result, Ok, Err, OnErr, length, ◌∙◌, arith}
use Rattle.std.specs.Io.{StartsWith}
use Rattle.std.proofs.lemmas.List.{get_or_read, take_all}
use Rattle.sstable_values.proofs.RisingLaws.{starts-more}
use Rattle.sstable_values.proofs.IndexLaws.{WritingBlocks-begin, WritingBlocks-more, WritingBlocks-end, index-again, all_fit, nowhere}
use Rattle.sstable_values.proofs.index.write_addresses.Goals as goal

on_err : {T E : Type 0} (r : Result T E) (P : Type 0) → P → OnErr r P
on_err (Ok x) P p = tt
on_err (Err e) P p = p

pub loop-block-init : goal.loop-block-init
loop-block-init c =
    rw (c.in_ok-serialize_into_vec-2.ensures.ok, c.start_of.ensures, c.in_ok-serialize_into_vec.ensures.ok)
    (WritingBlocks-begin c.args.blocks.now c.args.output.now.items c.requires, starts-more _ _ _ (starts-more _ _ _ (take_all (length c.args.output.now.items) c.args.output.now.items (omega arith))))

pub overflow_sub-len : goal.overflow_sub-len
overflow_sub-len c =
    (WritingBlocks-more _ _ _ _ _ _ c.loop-block.invariant.0 c.loop-block-test.true (c.block.view_is ∙ get_or_read _ _ _ c.loop-block-test.true c.block-item.is nowhere)).up

pub overflow_sub-block-inside : goal.overflow_sub-block-inside
overflow_sub-block-inside c =
    (WritingBlocks-more _ _ _ _ _ _ c.loop-block.invariant.0 c.loop-block-test.true (c.block.view_is ∙ get_or_read _ _ _ c.loop-block-test.true c.block-item.is nowhere)).high

pub returns-in_err-serialize_into_vec-4-clause-err : goal.returns-in_err-serialize_into_vec-4-clause-err
returns-in_err-serialize_into_vec-4-clause-err c =
    let kept : StartsWith c.serialize_into_vec-in-loop-block-2.new.buffer.items c.args.output.now.items =
    rw (c.in_err-serialize_into_vec-4.ensures.err, c.in_ok-serialize_into_vec-3.ensures.ok) (starts-more _ _ _ c.loop-block.invariant.1) in
    on_err _ _ kept

pub loop-block-preserved : goal.loop-block-preserved
loop-block-preserved c =
    let more = WritingBlocks-more _ _ _ _ _ _ c.loop-block.invariant.0 c.loop-block-test.true (c.block.view_is ∙ get_or_read _ _ _ c.loop-block-test.true c.block-item.is nowhere) in
    rw (c.in_ok-serialize_into_vec-4.ensures.ok, c.in_ok-serialize_into_vec-3.ensures.ok)
    (more.onward (omega arith) (omega arith), starts-more _ _ _ (starts-more _ _ _ c.loop-block.invariant.1))

pub returns-clause-ok : goal.returns-clause-ok
returns-clause-ok c = WritingBlocks-end _ _ _ _ _ c.loop-block.invariant.0 (omega arith)

pub returns-clause-again : goal.returns-clause-again
returns-clause-again c rest = index-again c.args.blocks.now rest (omega arith) c.requires (all_fit _ _ c.loop-block.invariant.0.fits (omega arith))
