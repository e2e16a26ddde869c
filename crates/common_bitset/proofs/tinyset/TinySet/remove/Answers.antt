use Rattle.std.proofs.Common.{ap, ◌∙◌}
use Rattle.std.specs.FinSet.{remove}
use Rattle.common_bitset.specs.Laws.WordSets.{elements-clear}
use Rattle.common_bitset.proofs.tinyset.TinySet.remove.Goals as goal

pub returns : goal.returns
returns c = elements-clear c.self.inside.0 c.args.el c.requires ∙ ap (λ s. remove s c.args.el) c.self.view_is
