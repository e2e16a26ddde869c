use Rattle.std.proofs.Common.{◌≡◌, ◌-◌, None, drop, arith}
use Rattle.sstable_values.specs.Codec.{vec_u32, list_at}
use Rattle.sstable_values.proofs.Counted.{Counted-cut, Counted-more, Counted-end}
use Rattle.sstable_values.proofs.ListLaws.{lists-none, lists-cut, lists-read, corrupt_as, items_of-push}
use Rattle.sstable_values.proofs.vec_u32.read_lists.Goals as goal

pub returns-in_default : goal.returns-in_default
returns-in_default c = lists-none _ c.in_default.ensures.none

pub returns-in-Err : goal.returns-in-Err
returns-in-Err c =
    corrupt_as c.in-Err.e (list_at (drop c.loop-i.taken c.args.content.now) ≡ None) (vec_u32.values_of c.args.content.now ≡ None)
    (λ none. lists-cut _ _ _ c.in-Some.ensures.found (Counted-cut list_at _ _ _ _ _ _ c.loop-i.invariant (omega (arith, c.loop-i-test.true)) none))
    c.in-Err.ensures.corrupt

pub loop-i-preserved : goal.loop-i-preserved
loop-i-preserved c =
    rw (c.in_ok-push.ensures.items, items_of-push c.loop-i.vals.items c.in-Ok.found.0) (Counted-more list_at _ _ _ _ _ _ _ _ _ c.loop-i.invariant
    (omega (arith, c.loop-i-test.true)) c.in-Ok.ensures.found c.in-Ok.ensures.within)

pub returns : goal.returns
returns c =
    let e : c.in-Some.count - c.loop-i._i ≡ 0 = omega (arith, c.loop-i-test.false) in
    (c.loop-i.invariant.within, lists-read _ _ _ _ _ c.in-Some.ensures.found (Counted-end list_at _ _ _ _ _ (rw e at c.loop-i.invariant)))
