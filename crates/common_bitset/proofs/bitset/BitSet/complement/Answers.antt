use Rattle.std.proofs.Common.{◌-◌, length, sym, ap, subst, ◌∙◌}
use Rattle.std.specs.FinSet.{difference}
use Rattle.common_bitset.specs.Numbers.{below}
use Rattle.common_bitset.specs.Subset.{gathered, word_at, room}
use Rattle.common_bitset.specs.Laid.{IsLaid}
use Rattle.common_bitset.specs.Laws.Laid.{laid_complement, count-le}
use Rattle.common_bitset.specs.Laws.Gathered.{gathered-complement}
use Rattle.common_bitset.proofs.WordLoops.{lent_whole}
use Rattle.common_bitset.proofs.bitset.BitSet.complement.Goals as goal

pub overflow_sub-self : goal.overflow_sub-self
overflow_sub-self c = count-le c.self.invariant

pub invariant_of-self : goal.invariant_of-self
invariant_of-self c =
    let items = c.self.inside.tinysets.items in
    let new = c.complement.new.words in
    let long = c.complement.auto.words ∙ ap length c.as_mut_slice.ensures.value in
    subst (λ ws. IsLaid ws (c.self.inside.max_value - c.self.inside.len) c.self.inside.max_value) (sym (lent_whole items new _ long (sym c.as_mut_slice.ensures.len ∙ ap length c.as_mut_slice.ensures.value)))
    (laid_complement items new c.self.inside.len c.self.inside.max_value c.self.invariant long (λ k. c.complement.ensures k ∙ ap (λ ws. difference (below (room c.self.inside.max_value k)) (word_at ws k)) c.as_mut_slice.ensures.value))

pub returns-clause-elements : goal.returns-clause-elements
returns-clause-elements c =
    let items = c.self.inside.tinysets.items in
    let new = c.complement.new.words in
    let long = c.complement.auto.words ∙ ap length c.as_mut_slice.ensures.value in
    ap (λ ws. gathered c.self.inside.max_value (word_at ws)) (lent_whole items new _ long (sym c.as_mut_slice.ensures.len ∙ ap length c.as_mut_slice.ensures.value))
    ∙ gathered-complement c.self.inside.max_value (word_at items) (word_at new) (λ k. c.complement.ensures k ∙ ap (λ ws. difference (below (room c.self.inside.max_value k)) (word_at ws k)) c.as_mut_slice.ensures.value) ∙ ap (λ s. difference (below s.max_value) s.elements) c.self.view_is
