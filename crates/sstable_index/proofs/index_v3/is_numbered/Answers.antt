use Rattle.std.proofs.Common.{◌≤◌, length, arith}
use Rattle.sstable_index.proofs.Looking.{numbered-begin, numbered-more, numbered-not, numbered-end}
use Rattle.sstable_index.proofs.index_v3.is_numbered.Goals as goal

pub loop-i-init : goal.loop-i-init
loop-i-init c = numbered-begin c.args.fst.now

pub returns-then-value-i : goal.returns-then-value-i
returns-then-value-i c = numbered-not c.args.fst.now c.loop-i.i c.value.result (omega (arith, c.loop-i-test.true, c.len-i-end.ensures.count)) c.value.ensures c.if-value-i.true c.loop-i.invariant

pub loop-i-preserved : goal.loop-i-preserved
loop-i-preserved c = numbered-more c.args.fst.now c.loop-i.i c.value.result (omega (arith, c.loop-i-test.true, c.len-i-end.ensures.count)) c.value.ensures c.if-value-i.false c.loop-i.invariant

pub returns : goal.returns
returns c = numbered-end c.args.fst.now c.loop-i.i (omega (arith, c.loop-i-test.false, c.len-i-end.ensures.count)) c.loop-i.invariant
