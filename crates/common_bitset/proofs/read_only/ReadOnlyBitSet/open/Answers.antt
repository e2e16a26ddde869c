use Rattle.std.proofs.Common.{◌∙◌, ap, sym, subst, drop, ◌<◌, ◌^◌}
use Rattle.std.proofs.lemmas.Bool.{false≢true}
use Rattle.common_bitset.specs.Subset.{gathered, stored_word, stored_set, FitsBitSet}
use Rattle.common_bitset.specs.Laid.{AreStored}
use Rattle.common_bitset.specs.Laws.Stored.{Fits-bytes_of, stored_set-bytes_of, stored_laid}
use Rattle.common_bitset.proofs.read_only.ReadOnlyBitSet.open.Goals as goal

pub returns-then-not-fits-clause-again : goal.returns-then-not-fits-clause-again
returns-then-not-fits-clause-again c s proper e =
    false≢true (sym c.if-not-fits.true ∙ c.fits.ensures.1 (subst FitsBitSet (sym (c.as_slice.ensures ∙ e)) (Fits-bytes_of s proper)))

pub invariant_of-result : goal.invariant_of-result
invariant_of-result c =
    let fit = subst FitsBitSet c.as_slice.ensures (c.fits.ensures.0 c.if-not-fits.false) in
    subst (λ bs. AreStored bs c.read_u32-max_value.result) (sym c.read_u32-max_value.ensures.rest)
    (subst (AreStored (drop 4 c.args.bytes)) (sym c.read_u32-max_value.ensures.value) (stored_laid c.args.bytes fit (subst (λ m. m < 2 ^ 32) c.read_u32-max_value.ensures.value c.read_u32-max_value.type_inv)))

pub returns-clause-again : goal.returns-clause-again
returns-clause-again c s proper e =
    (λ i. record { elements = gathered (c.read_u32-max_value.ensures.value i) (stored_word (c.read_u32-max_value.ensures.rest i)); max_value = c.read_u32-max_value.ensures.value i })
    ∙ ap stored_set e ∙ stored_set-bytes_of s proper
