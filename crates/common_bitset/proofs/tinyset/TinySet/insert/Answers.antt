use Rattle.std.proofs.Common.{ap, ◌∙◌}
use Rattle.std.specs.FinSet.{union}
use Rattle.common_bitset.specs.Laws.Sets.{union-single}
use Rattle.common_bitset.proofs.tinyset.TinySet.insert.Goals as goal

pub returns : goal.returns
returns c = c.union.ensures ∙ ap (union c.args.self) c.singleton.ensures ∙ union-single c.args.self c.args.el
