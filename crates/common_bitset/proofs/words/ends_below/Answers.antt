use Rattle.std.proofs.Common.{◌∙◌, sym, refl}
use Rattle.std.specs.FinSet.{intersection}
use Rattle.common_bitset.specs.Laws.Stored.{ends_whole, ends_clean, clean_ends}
use Rattle.common_bitset.proofs.words.ends_below.Goals as goal

pub returns-then-lower-eq0 : goal.returns-then-lower-eq0
returns-then-lower-eq0 c = (λ _. ends_whole c.args.words.now c.args.max_value c.requires c.if-lower-eq0.true, λ _. refl)

pub returns : goal.returns
returns c =
    let met = c.intersect.ensures ∙ (λ i. intersection (c.stored.ensures i) (c.range_greater_or_equal.ensures i)) in (
      λ h. ends_clean c.args.words.now c.args.max_value _ c.requires c.if-lower-eq0.false refl (sym met ∙ c.is_empty.ensures.0 h),
      λ are. c.is_empty.ensures.1 (met ∙ clean_ends c.args.words.now c.args.max_value _ c.requires c.if-lower-eq0.false refl are),
    )
