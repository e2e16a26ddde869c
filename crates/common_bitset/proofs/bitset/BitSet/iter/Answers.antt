use Rattle.std.proofs.Common.{ap, ◌∙◌, length}
use Rattle.common_bitset.specs.Numbers.{rising}
use Rattle.common_bitset.specs.Subset.{word_at}
use Rattle.common_bitset.specs.Iterated.{elements_from}
use Rattle.common_bitset.specs.Laws.Iterated.{elements_from-all}
use Rattle.common_bitset.proofs.bitset.BitSet.iter.Goals as goal

pub returns : goal.returns
returns c =
    c.new.ensures ∙ ap (λ ws. elements_from (word_at ws) (length ws) 0) c.as_slice.ensures.value
    ∙ elements_from-all (word_at c.self.inside.tinysets.items) (length c.self.inside.tinysets.items) c.self.inside.max_value c.self.invariant.length_is c.self.invariant.are_words
    ∙ ap (λ s. rising s.max_value s.elements) c.self.view_is
