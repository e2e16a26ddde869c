use Rattle.std.proofs.Common.{◌∙◌}
use Rattle.common_bitset.specs.Numbers.{same}
use Rattle.common_bitset.specs.Laws.WordSets.{eqb-elements}
use Rattle.common_bitset.proofs.tinyset.TinySetPartialEq.eq.Goals as goal

pub returns : goal.returns
returns c = eqb-elements c.self.inside.0 c.other.inside.0 c.self.invariant c.other.invariant ∙ (λ i. same (c.self.view_is i) (c.other.view_is i))
