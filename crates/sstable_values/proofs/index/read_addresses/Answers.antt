use Rattle.std.proofs.Common.{◌≡◌, ◌+◌, ◌-◌, arith}
use Rattle.sstable_values.proofs.RisingLaws.{rest_is}
use Rattle.sstable_values.proofs.IndexLaws.{Blocks-no_count, Blocks-no_start, Blocks-begin, Blocks-no_length, Blocks-no_difference, pair_read, Blocks-far, Blocks-high, Blocks-more, Blocks-end}
use Rattle.sstable_values.proofs.index.read_addresses.Goals as goal

pub returns-in_default : goal.returns-in_default
returns-in_default c = Blocks-no_count _ c.in_default.ensures.none

pub returns-in_default-deserialize_read : goal.returns-in_default-deserialize_read
returns-in_default-deserialize_read c =
    let e = rest_is c.in-Some.count_len c.args.content.now in
    Blocks-no_start _ _ _ c.in-Some.ensures.found (rw e at c.in_default-deserialize_read.ensures.none)

pub loop-i-init : goal.loop-i-init
loop-i-init c =
    let e = rest_is c.in-Some.count_len c.args.content.now in
    rw (c.in_ok-reserve.ensures.items, c.requires) (Blocks-begin _ _ _ _ _ _ c.in-Some.ensures.found (omega arith)
    (rw e at c.in-Some-deserialize_read.ensures.found) c.in-Some.ensures.within.1 (rw e at c.in-Some-deserialize_read.ensures.within).1)

pub returns-in_default-deserialize_read-2 : goal.returns-in_default-deserialize_read-2
returns-in_default-deserialize_read-2 c =
    let e = rest_is c.loop-i.taken c.args.content.now in
    Blocks-no_length _ _ _ _ _ _ c.loop-i.invariant (omega (arith, c.loop-i-test.true)) (rw e at c.in_default-deserialize_read-2.ensures.none)

pub returns-in_default-deserialize_read-3 : goal.returns-in_default-deserialize_read-3
returns-in_default-deserialize_read-3 c =
    let e = rest_is c.loop-i.taken c.args.content.now in
    let f = rest_is (c.loop-i.taken + c.in-Some-deserialize_read-2.len_len) c.args.content.now in
    Blocks-no_difference _ _ _ _ _ _ _ _ c.loop-i.invariant (omega (arith, c.loop-i-test.true))
    (rw e at c.in-Some-deserialize_read-2.ensures.found) (rw f at c.in_default-deserialize_read-3.ensures.none)

pub returns-in_default-checked_add : goal.returns-in_default-checked_add
returns-in_default-checked_add c =
    let e = rest_is c.loop-i.taken c.args.content.now in
    let f = rest_is (c.loop-i.taken + c.in-Some-deserialize_read-2.len_len) c.args.content.now in
    Blocks-far _ _ _ _ _ _ _ _ _ _ c.loop-i.invariant (omega (arith, c.loop-i-test.true))
    (pair_read _ _ _ _ _ _ c.loop-i.invariant.within (rw e at c.in-Some-deserialize_read-2.ensures.within).1 (rw f at c.in-Some-deserialize_read-3.ensures.within).1
    (rw e at c.in-Some-deserialize_read-2.ensures.found) (rw f at c.in-Some-deserialize_read-3.ensures.found))
    (omega (arith, c.in_default-checked_add.ensures))

pub returns-in_default-checked_add-2 : goal.returns-in_default-checked_add-2
returns-in_default-checked_add-2 c =
    let e = rest_is c.loop-i.taken c.args.content.now in
    let f = rest_is (c.loop-i.taken + c.in-Some-deserialize_read-2.len_len) c.args.content.now in
    Blocks-high _ _ _ _ _ _ _ _ _ _ c.loop-i.invariant (omega (arith, c.loop-i-test.true))
    (pair_read _ _ _ _ _ _ c.loop-i.invariant.within (rw e at c.in-Some-deserialize_read-2.ensures.within).1 (rw f at c.in-Some-deserialize_read-3.ensures.within).1
    (rw e at c.in-Some-deserialize_read-2.ensures.found) (rw f at c.in-Some-deserialize_read-3.ensures.found))
    (omega (arith, c.in_default-checked_add-2.ensures))

pub loop-i-preserved : goal.loop-i-preserved
loop-i-preserved c =
    let e = rest_is c.loop-i.taken c.args.content.now in
    let f = rest_is (c.loop-i.taken + c.in-Some-deserialize_read-2.len_len) c.args.content.now in
    let end = c.in-Some-checked_add.ensures in
    let ordinal = c.in-Some-checked_add-2.ensures in
    rw (c.in_ok-push.ensures.items, end.1, ordinal.1) (Blocks-more _ _ _ _ _ _ _ _ _ _ _ c.loop-i.invariant (omega (arith, c.loop-i-test.true))
    (pair_read _ _ _ _ _ _ c.loop-i.invariant.within (rw e at c.in-Some-deserialize_read-2.ensures.within).1 (rw f at c.in-Some-deserialize_read-3.ensures.within).1
    (rw e at c.in-Some-deserialize_read-2.ensures.found) (rw f at c.in-Some-deserialize_read-3.ensures.found)) end.0 ordinal.0)

pub returns : goal.returns
returns c =
    let e : c.in-Some.count - c.loop-i._i ≡ 0 = omega (arith, c.loop-i-test.false) in
    (c.loop-i.invariant.within, Blocks-end _ _ _ _ _ (rw e at c.loop-i.invariant))
