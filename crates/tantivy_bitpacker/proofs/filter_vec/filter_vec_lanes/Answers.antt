use Rattle.std.proofs.Common.{ap, ◌∙◌, sym}
use Rattle.std.specs.Range.{range_inclusive_start}
use Rattle.tantivy_bitpacker.specs.Within.{places_within}
use Rattle.tantivy_bitpacker.proofs.Places.{places_within-reversed}
use Rattle.tantivy_bitpacker.proofs.filter_vec.filter_vec_lanes.Goals as goal

pub returns-then-high-low : goal.returns-then-high-low
returns-then-high-low c =
    c.clear.ensures.items ∙ sym (places_within-reversed c.start-low.result.now c.end-high.result.now c.args.offset c.args.output.now.items c.if-high-low.true)
    ∙ ap (λ low. places_within low c.end-high.result.now c.args.offset c.args.output.now.items) c.start-low.ensures
    ∙ ap (λ high. places_within (range_inclusive_start c.args.range) high c.args.offset c.args.output.now.items) c.end-high.ensures
