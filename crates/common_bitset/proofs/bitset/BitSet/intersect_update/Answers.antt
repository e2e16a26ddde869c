use Rattle.std.proofs.Common.{length, sym, ap, subst, ◌∙◌}
use Rattle.std.specs.FinSet.{intersection}
use Rattle.common_bitset.specs.Subset.{word_at, word_in, gathered}
use Rattle.common_bitset.specs.Counts.{total}
use Rattle.common_bitset.specs.Laid.{IsLaid}
use Rattle.common_bitset.specs.Laws.Laid.{laid_again}
use Rattle.common_bitset.specs.Laws.Gathered.{AreWords-intersection, gathered-intersection}
use Rattle.common_bitset.specs.Laws.Stored.{gathered-word_in}
use Rattle.common_bitset.proofs.WordLoops.{lent_whole}
use Rattle.common_bitset.proofs.bitset.BitSet.intersect_update.Goals as goal

pub invariant_of-self : goal.invariant_of-self
invariant_of-self c =
    let items = c.self.inside.tinysets.items in
    let new = c.intersect_words-self-inside.new.words in
    let long = c.intersect_words-self-inside.auto.words ∙ ap length c.as_mut_slice.ensures.value in
    subst (λ ws. IsLaid ws c.intersect_words-self-inside.result c.self.inside.max_value) (sym (lent_whole items new _ long (sym c.as_mut_slice.ensures.len ∙ ap length c.as_mut_slice.ensures.value)))
    (laid_again items new c.self.inside.len c.self.inside.max_value c.intersect_words-self-inside.result c.self.invariant long
    (c.intersect_words-self-inside.ensures.count ∙ ap (λ xs. total (length xs) (word_at new)) c.as_mut_slice.ensures.value)
    (AreWords-intersection c.self.inside.max_value (word_at items) (word_in c.args.other.now.elements) (word_at new) c.self.invariant.are_words
    (λ k. c.intersect_words-self-inside.ensures.words k ∙ ap (λ ws. intersection (word_at ws k) (word_in c.args.other.now.elements k)) c.as_mut_slice.ensures.value)))

pub returns-clause-elements : goal.returns-clause-elements
returns-clause-elements c =
    let proper = c.intersect_words-self-inside.ensures.proper in
    let same_bound = c.requires ∙ ap (λ s. s.max_value) (sym c.self.view_is) in
    let others = ap (λ m. gathered m (word_in c.args.other.now.elements)) (sym same_bound) ∙ gathered-word_in c.args.other.now.max_value c.args.other.now.elements proper.within in
    let items = c.self.inside.tinysets.items in
    let new = c.intersect_words-self-inside.new.words in
    let long = c.intersect_words-self-inside.auto.words ∙ ap length c.as_mut_slice.ensures.value in
    ap (λ ws. gathered c.self.inside.max_value (word_at ws)) (lent_whole items new _ long (sym c.as_mut_slice.ensures.len ∙ ap length c.as_mut_slice.ensures.value))
    ∙ gathered-intersection c.self.inside.max_value (word_at items) (word_in c.args.other.now.elements) (word_at new)
    (λ k. c.intersect_words-self-inside.ensures.words k ∙ ap (λ ws. intersection (word_at ws k) (word_in c.args.other.now.elements k)) c.as_mut_slice.ensures.value)
    ∙ (λ i. intersection (c.self.view_is i).elements (others i))
