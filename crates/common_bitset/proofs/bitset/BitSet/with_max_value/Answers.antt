use Rattle.std.proofs.Common.{◌≡◌, ℕ, ap, ◌∙◌, length, replicate}
use Rattle.std.proofs.lemmas.List.{length-replicate}
use Rattle.std.specs.FinSet.{empty}
use Rattle.common_bitset.specs.Subset.{word_at}
use Rattle.common_bitset.specs.Laws.Laid.{laid_empty, empty_word}
use Rattle.common_bitset.specs.Laws.Gathered.{gathered-empty}
use Rattle.common_bitset.proofs.bitset.BitSet.with_max_value.Goals as goal

none : (c : goal.In_ok-vec) (k : ℕ) → word_at c.in_ok-vec.field-0.items k ≡ empty
none c k =
    ap (λ ws. word_at ws k) (c.in_ok-vec.ensures.items_if_clones_equal (λ y h. h) ∙ ap (replicate c.div_ceil.result) c.empty.ensures) ∙ empty_word c.div_ceil.result k

pub invariant_of-result : goal.invariant_of-result
invariant_of-result c =
    laid_empty c.in_ok-vec.field-0.items c.args.max_value
    (ap length (c.in_ok-vec.ensures.items_if_clones_equal (λ y h. h)) ∙ length-replicate c.div_ceil.result c.empty.result ∙ c.div_ceil.ensures) c.ranges.max_value.fits (none c)

pub returns : goal.returns
returns c = λ i. record { elements = gathered-empty c.args.max_value (word_at c.in_ok-vec.field-0.items) (none c) i; max_value = c.args.max_value }
