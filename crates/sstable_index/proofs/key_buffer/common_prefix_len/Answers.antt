use Rattle.std.proofs.Common.{drop, arith, length-drop}
use Rattle.std.specs.Prelude.{nat_eq}
use Rattle.std.proofs.lemmas.List.Sums.{common_prefix_len-le}
use Rattle.sstable_index.proofs.key_buffer.common_prefix_len.Goals as goal

pub returns-clause-count : goal.returns-clause-count
returns-clause-count c =
    let left = drop c.loop-i.i c.args.left.now in
    let right = drop c.loop-i.i c.args.right.now in
    let le = common_prefix_len-le nat_eq left right in
    omega (arith, le.0, le.1, length-drop c.loop-i.i c.args.left.now, length-drop c.loop-i.i c.args.right.now, c.loop-i.invariant, c.min-most.ensures, c.loop-i-test.false, c.loop-i.auto)
