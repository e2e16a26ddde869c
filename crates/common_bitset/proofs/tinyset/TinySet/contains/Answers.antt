use Rattle.std.proofs.Common.{ap, ◌∙◌}
use Rattle.std.specs.FinSet.{contains}
use Rattle.common_bitset.specs.Laws.WordSets.{bit_test}
use Rattle.common_bitset.proofs.tinyset.TinySet.contains.Goals as goal

pub returns : goal.returns
returns c = bit_test c.self.inside.0 c.args.el c.requires ∙ ap (λ s. contains s c.args.el) c.self.view_is
