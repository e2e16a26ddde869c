use Rattle.std.proofs.Common.{◌∙◌, ap, sym, subst}
use Rattle.std.specs.FinSet.{intersection}
use Rattle.common_bitset.specs.Subset.{IsProper, word_at, stored_word, word_in}
use Rattle.common_bitset.specs.Laws.Stored.{IsProper-stored}
use Rattle.common_bitset.specs.Laws.Gathered.{word_in-gathered}
use Rattle.common_bitset.proofs.read_only.ReadOnlyBitSet.intersect_words.Goals as goal

pub returns-clause-words : goal.returns-clause-words
returns-clause-words c k =
    c.intersect_stored.ensures.words k
    ∙ ap (intersection (word_at c.args.words.now k)) (ap (λ bs. stored_word bs k) c.as_slice.ensures
    ∙ sym (word_in-gathered c.self.inside.max_value (stored_word c.self.inside.words) k c.self.invariant.are_words) ∙ ap (λ s. word_in s.elements k) c.self.view_is)

pub returns-clause-proper : goal.returns-clause-proper
returns-clause-proper c = subst IsProper c.self.view_is (IsProper-stored c.self.invariant)
