use Rattle.std.proofs.Common.{◌≡◌, ◌-◌, arith}
use Rattle.sstable_values.proofs.RisingLaws.{rest_is}
use Rattle.sstable_values.proofs.MonotonicLaws.{Numbers-no_count, Numbers-begin, Numbers-cut, Numbers-large, Numbers-more, Numbers-end}
use Rattle.sstable_values.proofs.u64_monotonic.read_numbers.Goals as goal

pub returns-in_default : goal.returns-in_default
returns-in_default c = Numbers-no_count _ c.in_default.ensures.none

pub loop-i-init : goal.loop-i-init
loop-i-init c = rw (c.in_ok-reserve.ensures.items, c.requires) (Numbers-begin _ _ _ _ c.in-Some.ensures.found (omega arith) c.in-Some.ensures.within.1)

pub returns-in_default-deserialize_read : goal.returns-in_default-deserialize_read
returns-in_default-deserialize_read c =
    let e = rest_is c.loop-i.taken c.args.content.now in
    Numbers-cut _ _ _ _ _ c.loop-i.invariant (omega (arith, c.loop-i-test.true)) (rw e at c.in_default-deserialize_read.ensures.none)

pub returns-in_default-checked_add : goal.returns-in_default-checked_add
returns-in_default-checked_add c =
    let e = rest_is c.loop-i.taken c.args.content.now in
    Numbers-large _ _ _ _ _ _ _ c.loop-i.invariant (omega (arith, c.loop-i-test.true))
    (rw e at c.in-Some-deserialize_read.ensures.found) (omega (arith, c.in_default-checked_add.ensures))

pub loop-i-preserved : goal.loop-i-preserved
loop-i-preserved c =
    let e = rest_is c.loop-i.taken c.args.content.now in
    let found = rw e at c.in-Some-deserialize_read.ensures.found in
    let within = rw e at c.in-Some-deserialize_read.ensures.within in
    let sum = c.in-Some-checked_add.ensures in
    rw (c.in_ok-push.ensures.items, sum.1) (Numbers-more _ _ _ _ _ _ _ _ c.loop-i.invariant (omega (arith, c.loop-i-test.true)) within.1 found sum.0)

pub returns : goal.returns
returns c =
    let e : c.in-Some.count - c.loop-i._i ≡ 0 = omega (arith, c.loop-i-test.false) in
    (c.loop-i.invariant.within, Numbers-end _ _ _ _ (rw e at c.loop-i.invariant))
