use Rattle.std.proofs.Common.{arith}
use Rattle.sstable_values.proofs.RisingLaws.{Writing-more, Writing-end, rising-again, starts-more}
use Rattle.sstable_values.proofs.value.write_rising.Goals as goal

pub overflow_sub-number : goal.overflow_sub-number
overflow_sub-number c = (Writing-more _ _ _ _ _ c.loop-number.invariant.0 c.loop-number-test.true).0

pub loop-number-preserved : goal.loop-number-preserved
loop-number-preserved c =
    rw c.in_ok-serialize_into_vec-2.ensures.ok
    ((Writing-more _ _ _ _ _ c.loop-number.invariant.0 c.loop-number-test.true).1, starts-more _ _ _ c.loop-number.invariant.1)

pub returns-clause-ok : goal.returns-clause-ok
returns-clause-ok c = Writing-end _ _ _ _ _ c.loop-number.invariant.0 (omega arith)

pub returns-clause-again : goal.returns-clause-again
returns-clause-again c rest = rising-again c.args.numbers.now rest (omega arith) c.requires (λ i. omega (arith, c.type_inv.numbers i))
