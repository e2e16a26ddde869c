use Rattle.std.proofs.Common.{sym, ap, subst, ◌∙◌, ◌<◌}
use Rattle.std.specs.FinSet.{contains}
use Rattle.common_bitset.specs.Laws.Laid.{contains_read}
use Rattle.common_bitset.proofs.bitset.BitSet.contains.Goals as goal

pub returns : goal.returns
returns c =
    let within = subst (λ s. c.args.el < s.max_value) (sym c.self.view_is) c.requires in
    c.contains.ensures ∙ contains_read c.self.inside.tinysets.items c.self.inside.len c.self.inside.max_value c.args.el c.index.result.now c.self.invariant within c.index.ensures
    ∙ ap (λ s. contains s.elements c.args.el) c.self.view_is
