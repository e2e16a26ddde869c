use Rattle.std.proofs.Common.{not, ap, ◌∙◌}
use Rattle.common_bitset.specs.Numbers.{same}
use Rattle.common_bitset.specs.Laws.Sets.{same-insert}
use Rattle.common_bitset.proofs.tinyset.TinySet.insert_mut.Goals as goal

pub returns-clause-changed : goal.returns-clause-changed
returns-clause-changed c = c.ne.ensures ∙ ap (λ s. not (same c.args.self.now s)) c.insert.ensures ∙ ap not (same-insert c.args.self.now c.args.el)
