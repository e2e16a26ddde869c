use Rattle.std.proofs.Common.{length, sym, ap, subst, ◌∙◌}
use Rattle.common_bitset.specs.Subset.{gathered, word_at}
use Rattle.common_bitset.specs.Laid.{IsLaid}
use Rattle.common_bitset.specs.Laws.Laid.{laid_empty}
use Rattle.common_bitset.specs.Laws.Gathered.{gathered-empty}
use Rattle.common_bitset.proofs.WordLoops.{lent_whole}
use Rattle.common_bitset.proofs.bitset.BitSet.clear.Goals as goal

pub invariant_of-self : goal.invariant_of-self
invariant_of-self c =
    let items = c.self.inside.tinysets.items in
    let new = c.clear.new.words in
    let long = c.clear.auto.words ∙ ap length c.as_mut_slice.ensures.value in
    subst (λ ws. IsLaid ws 0 c.self.inside.max_value) (sym (lent_whole items new _ long (sym c.as_mut_slice.ensures.len ∙ ap length c.as_mut_slice.ensures.value)))
    (laid_empty new c.self.inside.max_value (long ∙ c.self.invariant.length_is) c.self.invariant.small c.clear.ensures)

pub returns-clause-elements : goal.returns-clause-elements
returns-clause-elements c =
    let items = c.self.inside.tinysets.items in
    let new = c.clear.new.words in
    let long = c.clear.auto.words ∙ ap length c.as_mut_slice.ensures.value in
    ap (λ ws. gathered c.self.inside.max_value (word_at ws)) (lent_whole items new _ long (sym c.as_mut_slice.ensures.len ∙ ap length c.as_mut_slice.ensures.value))
    ∙ gathered-empty c.self.inside.max_value (word_at new) c.clear.ensures
