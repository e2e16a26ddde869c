use Rattle.std.proofs.Common.{◌≡◌, ◌-◌, arith}
use Rattle.sstable_values.proofs.RisingLaws.{rest_is}
use Rattle.sstable_values.proofs.RangeLaws.{Spans-no_count, Spans-none, Spans-no_first, Spans-begin, Spans-cut, Spans-large, Spans-more, Spans-end}
use Rattle.sstable_values.proofs.range.read_ranges.Goals as goal

pub returns-in_default : goal.returns-in_default
returns-in_default c = Spans-no_count _ c.in_default.ensures.none

pub returns-then-count-eq0 : goal.returns-then-count-eq0
returns-then-count-eq0 c =
    let none : c.in-Some.count ≡ 0 = c.if-count-eq0.true in
    rw c.requires (c.in-Some.ensures.within.1, Spans-none _ _ (rw none at c.in-Some.ensures.found))

pub returns-in_default-deserialize_read : goal.returns-in_default-deserialize_read
returns-in_default-deserialize_read c =
    let e = rest_is c.in-Some.count_len c.args.content.now in
    Spans-no_first _ _ _ c.in-Some.ensures.found (omega (arith, c.if-count-eq0.false)) (rw e at c.in_default-deserialize_read.ensures.none)

pub loop-i-init : goal.loop-i-init
loop-i-init c =
    let e = rest_is c.in-Some.count_len c.args.content.now in
    rw (c.in_ok-reserve.ensures.items, c.requires) (Spans-begin _ _ _ _ _ _ c.in-Some.ensures.found (omega (arith, c.if-count-eq0.false))
    (rw e at c.in-Some-deserialize_read.ensures.found) c.in-Some.ensures.within.1 (rw e at c.in-Some-deserialize_read.ensures.within).1)

pub returns-in_default-deserialize_read-2 : goal.returns-in_default-deserialize_read-2
returns-in_default-deserialize_read-2 c =
    let e = rest_is c.loop-i.taken c.args.content.now in
    Spans-cut _ _ _ _ _ c.loop-i.invariant (omega (arith, c.loop-i-test.true)) (rw e at c.in_default-deserialize_read-2.ensures.none)

pub returns-in_default-checked_add : goal.returns-in_default-checked_add
returns-in_default-checked_add c =
    let e = rest_is c.loop-i.taken c.args.content.now in
    Spans-large _ _ _ _ _ _ _ c.loop-i.invariant (omega (arith, c.loop-i-test.true))
    (rw e at c.in-Some-deserialize_read-2.ensures.found) (omega (arith, c.in_default-checked_add.ensures))

pub loop-i-preserved : goal.loop-i-preserved
loop-i-preserved c =
    let e = rest_is c.loop-i.taken c.args.content.now in
    let found = rw e at c.in-Some-deserialize_read-2.ensures.found in
    let within = rw e at c.in-Some-deserialize_read-2.ensures.within in
    let sum = c.in-Some-checked_add.ensures in
    rw (c.in_ok-push.ensures.items, sum.1) (Spans-more _ _ _ _ _ _ _ _ c.loop-i.invariant (omega (arith, c.loop-i-test.true)) within.1 found sum.0)

pub returns : goal.returns
returns c =
    let e : c.in-Some.count - c.loop-i._i ≡ 0 = omega (arith, c.loop-i-test.false) in
    (c.loop-i.invariant.within, Spans-end _ _ _ _ (rw e at c.loop-i.invariant))
