use Rattle.std.proofs.Common.{ap, ◌∙◌, ◌/◌, length, arith}
use Rattle.common_bitset.specs.Numbers.{rising}
use Rattle.common_bitset.specs.Subset.{stored_word}
use Rattle.common_bitset.specs.Iterated.{elements_from}
use Rattle.common_bitset.specs.Laws.Iterated.{elements_from-all}
use Rattle.common_bitset.proofs.read_only.ReadOnlyBitSet.iter.Goals as goal

pub returns : goal.returns
returns c =
    c.new.ensures ∙ ap (λ ws. elements_from (stored_word ws) (length ws / 8) 0) c.as_slice.ensures
    ∙ elements_from-all (stored_word c.self.inside.words) (length c.self.inside.words / 8) c.self.inside.max_value (omega (arith, c.self.invariant.length_is)) c.self.invariant.are_words
    ∙ ap (λ s. rising s.max_value s.elements) c.self.view_is
