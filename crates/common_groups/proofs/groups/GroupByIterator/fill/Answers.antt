use Rattle.std.proofs.Common.{refl, rules}
use Rattle.common_groups.proofs.Calls.{Gives-none, Gives-item, Gives-end, acts_again, acts_as}
use Rattle.common_groups.proofs.groups.GroupByIterator.fill.Goals as goal

pub returns-in-Some-clause-gives : goal.returns-in-Some-clause-gives
returns-in-Some-clause-gives g c = Gives-none _ _

pub returns-then-self-clause-gives : goal.returns-then-self-clause-gives
returns-then-self-clause-gives g c = Gives-none _ _

pub returns-in-Some-next-clause-gives : goal.returns-in-Some-next-clause-gives
returns-in-Some-next-clause-gives g c = Gives-item _ _ _ c.in-Some-next.item (search rules) (search rules) (search rules) refl (search rules)

pub returns-in-Some-next-clause-keys : goal.returns-in-Some-next-clause-keys
returns-in-Some-next-clause-keys g c = λ h k. record {
  acts = acts_again g.F.FnMut _ h k.acts c.in-Some-next.item c.key-key.result _ (record { shown = _; shows = refl; called = c.key-key.ensures });
  held_is = acts_as g.F.FnMut _ h k.acts c.in-Some-next.item c.key-key.result _ (record { shown = _; shows = refl; called = c.key-key.ensures });
}

pub returns-in-None-next-clause-gives : goal.returns-in-None-next-clause-gives
returns-in-None-next-clause-gives g c = Gives-end _ _ _ (search rules) (search rules) refl (search rules) (search rules)
