use Rattle.std.proofs.Common.{◌<◌, sym, ap, subst, ◌∙◌}
use Rattle.std.specs.FinSet.{remove}
use Rattle.common_bitset.specs.Laws.Laid.{counted_read, elements_removed, laid_removed}
use Rattle.common_bitset.proofs.bitset.BitSet.remove.Goals as goal

pub overflow_sub-self : goal.overflow_sub-self
overflow_sub-self c =
    let within = subst (λ s. c.args.el < s.max_value) (sym c.self.view_is) c.requires in
    counted_read c.self.inside.tinysets.items c.self.inside.len c.self.inside.max_value c.args.el c.index_mut.result.now c.self.invariant within c.index_mut.ensures.value
    _ c.remove_mut-changed.ensures.changed

pub invariant_of-self : goal.invariant_of-self
invariant_of-self c =
    let within = subst (λ s. c.args.el < s.max_value) (sym c.self.view_is) c.requires in
    laid_removed c.self.inside.tinysets.items c.self.inside.len c.self.inside.max_value c.args.el c.index_mut.result.now c.self.invariant within c.index_mut.ensures.value
    _ _ c.remove_mut-changed.ensures.after c.remove_mut-changed.ensures.changed

pub returns-clause-elements : goal.returns-clause-elements
returns-clause-elements c =
    let within = subst (λ s. c.args.el < s.max_value) (sym c.self.view_is) c.requires in
    elements_removed c.self.inside.tinysets.items c.self.inside.len c.self.inside.max_value c.args.el c.index_mut.result.now c.self.invariant within c.index_mut.ensures.value
    _ c.remove_mut-changed.ensures.after
    ∙ ap (λ s. remove s.elements c.args.el) c.self.view_is
