use Rattle.std.proofs.Common.{ap, ◌∙◌}
use Rattle.std.specs.FinSet.{difference}
use Rattle.common_bitset.specs.Numbers.{below}
use Rattle.common_bitset.specs.Laws.Sets.{difference-empty}
use Rattle.common_bitset.proofs.tinyset.TinySet.full.Goals as goal

pub returns : goal.returns
returns c = c.complement.ensures ∙ ap (difference (below 64)) c.empty.ensures ∙ difference-empty (below 64)
