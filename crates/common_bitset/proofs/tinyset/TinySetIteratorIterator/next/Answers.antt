use Rattle.std.proofs.Common.{subst, List, ℕ}
use Rattle.std.specs.Iterator.{YieldsFirst}
use Rattle.common_bitset.specs.Laws.WordSets.{pop_is_step}
use Rattle.common_bitset.specs.Numbers.{rising}
use Rattle.common_bitset.specs.Laws.Steps.{step_goes}
use Rattle.common_bitset.proofs.tinyset.TinySetIteratorIterator.next.Goals as goal

pub returns-clause-steps : goal.returns-clause-steps
returns-clause-steps c =
    subst (λ (s : List ℕ). YieldsFirst (λ (rest : List ℕ). rest) s c.pop_lowest.result (rising 64 c.pop_lowest.new.self)) c.self.view_is
    (pop_is_step _ _ c.pop_lowest.result c.pop_lowest.ensures.none c.pop_lowest.ensures.least c.pop_lowest.ensures.below c.pop_lowest.ensures.after)

pub returns-clause-goes : goal.returns-clause-goes
returns-clause-goes c = step_goes _ _ _ _ tt (returns-clause-steps c)
