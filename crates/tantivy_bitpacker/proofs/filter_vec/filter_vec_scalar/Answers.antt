use Rattle.std.proofs.Common.{ap, ◌∙◌, arith, subst, sym}
use Rattle.tantivy_bitpacker.specs.Within.{places_within, Filtering}
use Rattle.std.specs.Range.{range_inclusive_start}
use Rattle.tantivy_bitpacker.proofs.Places.{Filtering-begin, lent_back}
use Rattle.tantivy_bitpacker.proofs.filter_vec.filter_vec_scalar.Goals as goal

pub returns : goal.returns
returns c =
    let before = c.args.output.now.items in
    let begun = subst (λ ys. Filtering c.start.result.now c.end.result.now c.args.offset before ys 0 0) (sym c.as_mut_slice.ensures.value) (Filtering-begin c.start.result.now c.end.result.now c.args.offset before) in
    c.truncate.ensures.items ∙ lent_back _ _ c.filter_rest-kept.new.values before (omega (arith, c.filter_rest-kept.auto.values, c.as_mut_slice.ensures.len)) (omega (arith, c.args.output.now.ok.0))
    ∙ c.filter_rest-kept.ensures.kept before begun ∙ ap (λ low. places_within low c.end.result.now c.args.offset before) c.start.ensures
    ∙ ap (λ high. places_within (range_inclusive_start c.args.range) high c.args.offset before) c.end.ensures
