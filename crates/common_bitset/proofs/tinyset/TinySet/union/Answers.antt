use Rattle.std.proofs.Common.{◌∙◌}
use Rattle.std.specs.FinSet.{union}
use Rattle.common_bitset.specs.Laws.WordSets.{elements-or}
use Rattle.std.proofs.lemmas.Nat.{or_lt}
use Rattle.common_bitset.proofs.tinyset.TinySet.union.Goals as goal

pub invariant_of-result : goal.invariant_of-result
invariant_of-result c = or_lt 64 c.self.inside.0 c.other.inside.0 c.self.invariant c.other.invariant

pub returns : goal.returns
returns c = elements-or c.self.inside.0 c.other.inside.0 ∙ (λ i. union (c.self.view_is i) (c.other.view_is i))
