use Rattle.std.proofs.Common.{◌+◌, ◌^◌, ◌≤◌, sym, ap, subst, ◌∙◌, ◌<◌, not, arith, ℕ, Bool, true, false, Fits, w64}
use Rattle.std.specs.Int.{from_bool}
use Rattle.std.specs.FinSet.{insert, contains}
use Rattle.common_bitset.specs.Subset.{word_at}
use Rattle.common_bitset.specs.Laws.Laid.{contains_read, elements_inserted, laid_inserted, len_gathered_le}
use Rattle.common_bitset.proofs.bitset.BitSet.insert.Goals as goal

one_more_fits : (count max : ℕ) (r : Bool) → count ≤ max → max < 2 ^ 32 → Fits w64 (count + from_bool r)
one_more_fits count max true h small = omega arith
one_more_fits count max false h small = omega arith

pub overflow_add-self : goal.overflow_add-self
overflow_add-self c =
    let bound = len_gathered_le c.self.inside.max_value (word_at c.self.inside.tinysets.items) in
    let laid = c.self.invariant in
    one_more_fits c.self.inside.len c.self.inside.max_value c.insert_mut-changed.result (omega (arith, bound, laid.count_is)) laid.small

pub invariant_of-self : goal.invariant_of-self
invariant_of-self c =
    let within = subst (λ s. c.args.el < s.max_value) (sym c.self.view_is) c.requires in
    laid_inserted c.self.inside.tinysets.items c.self.inside.len c.self.inside.max_value c.args.el c.index_mut.result.now c.self.invariant within c.index_mut.ensures.value
    _ _ c.insert_mut-changed.ensures.after c.insert_mut-changed.ensures.changed

pub returns-clause-elements : goal.returns-clause-elements
returns-clause-elements c =
    let within = subst (λ s. c.args.el < s.max_value) (sym c.self.view_is) c.requires in
    elements_inserted c.self.inside.tinysets.items c.self.inside.len c.self.inside.max_value c.args.el c.index_mut.result.now c.self.invariant within c.index_mut.ensures.value
    _ c.insert_mut-changed.ensures.after
    ∙ ap (λ s. insert s.elements c.args.el) c.self.view_is

pub returns-clause-changed : goal.returns-clause-changed
returns-clause-changed c =
    let within = subst (λ s. c.args.el < s.max_value) (sym c.self.view_is) c.requires in
    c.insert_mut-changed.ensures.changed
    ∙ ap not (contains_read c.self.inside.tinysets.items c.self.inside.len c.self.inside.max_value c.args.el c.index_mut.result.now c.self.invariant within c.index_mut.ensures.value
    ∙ ap (λ s. contains s.elements c.args.el) c.self.view_is)
