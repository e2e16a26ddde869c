use Rattle.std.proofs.Common.{◌≡◌, ◌-◌, ◌∙◌, arith}
use Rattle.std.specs.Int.{w32}
use Rattle.owned_bytes.specs.Front.{number_at}
use Rattle.sstable_values.proofs.Counted.{Counted-cut, Counted-more, Counted-end}
use Rattle.sstable_values.proofs.ListLaws.{list-counted}
use Rattle.sstable_values.proofs.vec_u32.read_list.Goals as goal

pub returns-in_default-word_at-clause-corrupt : goal.returns-in_default-word_at-clause-corrupt
returns-in_default-word_at-clause-corrupt c =
    list-counted _ _ _ c.in-Some.ensures.found
    ∙ Counted-cut (number_at w32) _ _ _ _ _ _ c.loop-i.invariant (omega (arith, c.loop-i-test.true)) c.in_default-word_at.ensures.none

pub loop-i-preserved : goal.loop-i-preserved
loop-i-preserved c =
    rw c.in_ok-push.ensures.items (Counted-more (number_at w32) _ _ _ _ _ _ _ _ _ c.loop-i.invariant (omega (arith, c.loop-i-test.true))
    c.in-Some-word_at.ensures.found c.in-Some-word_at.ensures.within)

pub returns-clause-found : goal.returns-clause-found
returns-clause-found c =
    let e : c.in-Some.count - c.loop-i._i ≡ 0 = omega (arith, c.loop-i-test.false) in
    list-counted _ _ _ c.in-Some.ensures.found ∙ Counted-end (number_at w32) _ _ _ _ _ (rw e at c.loop-i.invariant)
