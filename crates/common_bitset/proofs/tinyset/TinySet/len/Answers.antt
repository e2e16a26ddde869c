use Rattle.std.proofs.Common.{ap, ◌∙◌, sym}
use Rattle.std.specs.FinSet.{len}
use Rattle.common_bitset.specs.Laws.WordSets.{len-elements}
use Rattle.common_bitset.proofs.tinyset.TinySet.len.Goals as goal

pub returns-clause-count : goal.returns-clause-count
returns-clause-count c = sym (len-elements c.self.inside.0 c.self.invariant) ∙ ap len c.self.view_is
