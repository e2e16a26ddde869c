use Rattle.std.proofs.Common.{◌≡◌, ◌+◌, ◌++◌, length, take, ap, sym, ◌∙◌, append-nil, arith}
use Rattle.std.proofs.lemmas.List.{length-take-le}
use Rattle.tantivy_bitpacker.specs.Packed.{unpacked_from}
use Rattle.tantivy_bitpacker.specs.Within.{places_within}
use Rattle.tantivy_bitpacker.proofs.Places.{ids_within-block, ids_within-none}
use Rattle.tantivy_bitpacker.proofs.bitunpacker.BitUnpacker.push_ids.Goals as goal

pub loop-first-preserved : goal.loop-first-preserved
loop-first-preserved c =
    let long : length (take c.min-count.result c.loop-first.block) ≡ c.min-count.result = length-take-le c.min-count.result c.loop-first.block (omega (arith, c.min-count.ensures, c.loop-first.auto)) in
    ids_within-block c.loop-first.positions.items c.extend_from_slice.new.self.items _ c.args.low (c.args.low + c.args.span) c.loop-first.first c.min-count.result c.args.id_range.end c.args.self.now c.args.bytes.now _
    c.loop-first.invariant (omega (arith, c.min-count.ensures)) (c.ids_of_block-kept.ensures.kept ∙ ap (λ n. places_within c.args.low (c.args.low + c.args.span) c.loop-first.first (unpacked_from c.loop-first.first n c.args.self.now c.args.bytes.now)) long) c.in_ok-extend_from_slice.ensures.items

pub returns : goal.returns
returns c =
    sym (append-nil c.loop-first.positions.items)
    ∙ ap (λ l. c.loop-first.positions.items ++ l) (sym (ids_within-none c.args.low (c.args.low + c.args.span) c.loop-first.first c.args.id_range.end c.args.self.now c.args.bytes.now (omega (arith, c.loop-first-test.false))))
    ∙ c.loop-first.invariant
