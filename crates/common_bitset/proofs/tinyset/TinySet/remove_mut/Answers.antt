use Rattle.std.proofs.Common.{not, ap, ◌∙◌}
use Rattle.common_bitset.specs.Numbers.{same}
use Rattle.common_bitset.specs.Laws.Sets.{same-remove, twice_not}
use Rattle.std.specs.FinSet.{contains}
use Rattle.common_bitset.proofs.tinyset.TinySet.remove_mut.Goals as goal

pub returns-clause-changed : goal.returns-clause-changed
returns-clause-changed c =
    c.ne.ensures ∙ ap (λ s. not (same c.args.self.now s)) c.remove.ensures ∙ ap not (same-remove c.args.self.now c.args.el)
    ∙ twice_not (contains c.args.self.now c.args.el)
