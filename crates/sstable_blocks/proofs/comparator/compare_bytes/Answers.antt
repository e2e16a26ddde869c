use Rattle.std.proofs.Common.{sym, ◌∙◌, arith}
use Rattle.sstable_blocks.proofs.OrderLaws.{ends}
use Rattle.sstable_blocks.proofs.comparator.compare_bytes.Goals as goal

pub returns-clause-common : goal.returns-clause-common
returns-clause-common c =
    let last = ends c.loop-i.i c.min-most.result c.args.left.now c.args.right.now (omega arith) c.min-most.ensures in
    sym last.0 ∙ c.loop-i.invariant.common

pub returns-clause-order : goal.returns-clause-order
returns-clause-order c =
    let last = ends c.loop-i.i c.min-most.result c.args.left.now c.args.right.now (omega arith) c.min-most.ensures in
    c.cmp.ensures ∙ sym last.1 ∙ c.loop-i.invariant.order
