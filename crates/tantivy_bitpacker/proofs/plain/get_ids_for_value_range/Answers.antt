use Rattle.std.proofs.Common.{◌≡◌, ◌++◌, ap, sym, ◌∙◌, append-nil}
use Rattle.std.specs.Range.{range_inclusive_start}
use Rattle.tantivy_bitpacker.specs.Within.{ids_within}
use Rattle.tantivy_bitpacker.proofs.Places.{ids_within-push, ids_within-none, place_if, place_if-yes, place_if-no}
use Rattle.tantivy_bitpacker.proofs.plain.get_ids_for_value_range.Goals as goal
use Rattle.tantivy_bitpacker.proofs.plain.get_ids_for_value_range.Goals.{then-is_within+in_ok-push, else-is_within}

pub loop-id-preserved : goal.loop-id-preserved
loop-id-preserved c =
    let more : c.if-is_within.positions.items ≡ c.loop-id.positions.items ++ place_if c.is_within.result c.loop-id.id = elim c.if-is_within.branch [
      | then-is_within+in_ok-push w ↦ ap (λ v. v.items) w.positions-is ∙ w.in_ok-push.ensures.items ∙ place_if-yes c.loop-id.positions.items c.is_within.result c.loop-id.id w.if-is_within.true
      | else-is_within w ↦ ap (λ v. v.items) w.positions-is ∙ place_if-no c.loop-id.positions.items c.is_within.result c.loop-id.id w.if-is_within.false
    ] in
    ids_within-push c.loop-id.positions.items c.if-is_within.positions.items c.start-low.result.now c.end-high.result.now c.loop-id.id c.args.id_range.end c.args.unpacker.now c.get-value.result c.args.bytes.now _ c.is_within.result
    c.loop-id.invariant c.loop-id-test.true c.get-value.ensures c.is_within.ensures more

pub returns : goal.returns
returns c =
    sym (append-nil c.loop-id.positions.items)
    ∙ ap (λ l. c.loop-id.positions.items ++ l) (sym (ids_within-none c.start-low.result.now c.end-high.result.now c.loop-id.id c.args.id_range.end c.args.unpacker.now c.args.bytes.now c.loop-id-test.false))
    ∙ c.loop-id.invariant ∙ ap (λ low. ids_within low c.end-high.result.now c.args.id_range.start c.args.id_range.end c.args.unpacker.now c.args.bytes.now) c.start-low.ensures
    ∙ ap (λ high. ids_within (range_inclusive_start c.args.range) high c.args.id_range.start c.args.id_range.end c.args.unpacker.now c.args.bytes.now) c.end-high.ensures
