use Rattle.std.proofs.Common.{ap, ◌∙◌}
use Rattle.std.specs.FinSet.{difference}
use Rattle.common_bitset.specs.Numbers.{below}
use Rattle.common_bitset.specs.Laws.WordSets.{elements-not}
use Rattle.common_bitset.proofs.tinyset.TinySet.complement.Goals as goal

pub returns : goal.returns
returns c = elements-not c.self.inside.0 c.self.invariant ∙ ap (difference (below 64)) c.self.view_is
