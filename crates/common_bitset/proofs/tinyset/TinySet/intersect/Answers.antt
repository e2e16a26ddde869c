use Rattle.std.proofs.Common.{◌∙◌}
use Rattle.std.specs.FinSet.{intersection}
use Rattle.common_bitset.specs.Laws.WordSets.{elements-and}
use Rattle.common_bitset.proofs.tinyset.TinySet.intersect.Goals as goal

pub returns : goal.returns
returns c = elements-and c.self.inside.0 c.other.inside.0 ∙ (λ i. intersection (c.self.view_is i) (c.other.view_is i))
