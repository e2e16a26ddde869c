use Rattle.common_groups.proofs.RunLaws.{runs_of_groups, drained}
use Rattle.common_groups.proofs.laws.groups_are_runs.Goals as goal

pub returns-clause-runs : goal.returns-clause-runs
returns-clause-runs g c = λ gs h known reads. runs_of_groups _ _ _ _ _ g.K.PartialEq.eq (λ k. g.met.K.Eq.laws.refl k) h c.args._groups.now gs known reads

pub returns-clause-all : goal.returns-clause-all
returns-clause-all g c = λ xs fresh goes_on all. drained g.I.Iterator.next_gives c.args._groups.now xs fresh goes_on all
