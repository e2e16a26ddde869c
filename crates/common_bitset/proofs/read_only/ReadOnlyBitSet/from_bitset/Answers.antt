use Rattle.std.proofs.Common.{◌∙◌, sym, subst}
use Rattle.common_bitset.specs.Subset.{gathered, stored_word, word_in}
use Rattle.common_bitset.specs.Laid.{AreStored}
use Rattle.common_bitset.specs.Laws.Stored.{stored_from, gathered_stored, gathered-word_in, AreWords-word_in}
use Rattle.common_bitset.proofs.read_only.ReadOnlyBitSet.from_bitset.Goals as goal

pub invariant_of-result : goal.invariant_of-result
invariant_of-result c =
    let s = c.args.bitset.now in
    let proper = c.max_value-max_value.ensures.proper in
    subst (λ bs. AreStored bs c.max_value-max_value.result) (sym c.in_ok-new.ensures)
    (subst (AreStored c.in_ok-words.words.items) (sym c.max_value-max_value.ensures.value)
    (stored_from c.in_ok-words.words.items s.max_value (word_in s.elements) c.in_ok-words.ensures (AreWords-word_in s.max_value s.elements proper.within) proper.small))

pub returns : goal.returns
returns c =
    let s = c.args.bitset.now in
    let proper = c.max_value-max_value.ensures.proper in
    let bound = c.max_value-max_value.ensures.value in
    let elements = (λ i. gathered (bound i) (stored_word (c.in_ok-new.ensures i))) ∙ gathered_stored s.max_value c.in_ok-words.words.items (word_in s.elements) c.in_ok-words.ensures
    ∙ gathered-word_in s.max_value s.elements proper.within in
    λ i. record { elements = elements i; max_value = bound i }
