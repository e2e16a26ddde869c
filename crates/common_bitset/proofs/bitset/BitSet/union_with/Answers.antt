use Rattle.std.proofs.Common.{length, sym, ap, subst, ◌∙◌}
use Rattle.std.specs.FinSet.{union}
use Rattle.common_bitset.specs.Subset.{word_at, gathered}
use Rattle.common_bitset.specs.Counts.{total}
use Rattle.common_bitset.specs.Laid.{IsLaid}
use Rattle.common_bitset.specs.Laws.Laid.{laid_union, elements_union}
use Rattle.common_bitset.proofs.WordLoops.{lent_whole}
use Rattle.common_bitset.proofs.bitset.BitSet.union_with.Goals as goal

pub invariant_of-self : goal.invariant_of-self
invariant_of-self c =
    let items = c.self.inside.tinysets.items in
    let new = c.unite-self-inside.new.left in
    let same_bound = ap (λ s. s.max_value) c.other.view_is ∙ c.requires ∙ ap (λ s. s.max_value) (sym c.self.view_is) in
    let long = c.unite-self-inside.auto.left ∙ ap length c.as_mut_slice.ensures.value in
    subst (λ ws. IsLaid ws c.unite-self-inside.result c.self.inside.max_value) (sym (lent_whole items new _ long (sym c.as_mut_slice.ensures.len ∙ ap length c.as_mut_slice.ensures.value)))
    (laid_union items c.other.inside.tinysets.items new c.self.inside.len c.other.inside.len c.self.inside.max_value c.other.inside.max_value c.unite-self-inside.result c.self.invariant c.other.invariant
    same_bound long (c.unite-self-inside.ensures.count ∙ ap (λ xs. total (length xs) (word_at new)) c.as_mut_slice.ensures.value)
    (λ k. c.unite-self-inside.ensures.words k ∙ (λ i. union (word_at (c.as_mut_slice.ensures.value i) k) (word_at (c.as_slice.ensures.value i) k))))

pub returns-clause-elements : goal.returns-clause-elements
returns-clause-elements c =
    let items = c.self.inside.tinysets.items in
    let new = c.unite-self-inside.new.left in
    let same_bound = ap (λ s. s.max_value) c.other.view_is ∙ c.requires ∙ ap (λ s. s.max_value) (sym c.self.view_is) in
    let long = c.unite-self-inside.auto.left ∙ ap length c.as_mut_slice.ensures.value in
    ap (λ ws. gathered c.self.inside.max_value (word_at ws)) (lent_whole items new _ long (sym c.as_mut_slice.ensures.len ∙ ap length c.as_mut_slice.ensures.value))
    ∙ elements_union items c.other.inside.tinysets.items new c.self.inside.len c.other.inside.len c.self.inside.max_value c.other.inside.max_value c.unite-self-inside.result c.self.invariant c.other.invariant
    same_bound long (c.unite-self-inside.ensures.count ∙ ap (λ xs. total (length xs) (word_at new)) c.as_mut_slice.ensures.value)
    (λ k. c.unite-self-inside.ensures.words k ∙ (λ i. union (word_at (c.as_mut_slice.ensures.value i) k) (word_at (c.as_slice.ensures.value i) k)))
    ∙ (λ i. union (c.self.view_is i).elements (c.other.view_is i).elements)
