use Rattle.std.proofs.Common.{◌≡◌, ◌+◌, ◌*◌, ◌%◌, subst, arith}
use Rattle.tantivy_bitpacker.specs.Lanes.{four_bits}
use Rattle.tantivy_bitpacker.specs.Within.{Filtering}
use Rattle.tantivy_bitpacker.proofs.Places.{Filtering-begin}
use Rattle.tantivy_bitpacker.proofs.LanePlaces.{Filtering-eight, set_places-length}
use Rattle.tantivy_bitpacker.proofs.filter_vec.filter_blocks.Goals as goal

pub loop-block-init : goal.loop-block-init
loop-block-init c = Filtering-begin c.args.low _ c.args.offset c.args.values.now

pub put_places-kept-requires-in-loop-block-clause-room : goal.put_places-kept-requires-in-loop-block-clause-room
put_places-kept-requires-in-loop-block-clause-room c =
    omega (arith, c.put_places-kept.ensures.count, set_places-length (c.args.offset + c.loop-block.block * 8) (four_bits (c.mask_within-mask.result % 16)), c.loop-block.invariant.behind, c.put_places-kept.auto.values)

pub loop-block-preserved : goal.loop-block-preserved
loop-block-preserved c =
    let next : c.loop-block.block * 8 + 8 ≡ (c.loop-block.block + 1) * 8 = omega arith in
    subst (λ n. Filtering c.args.low (c.args.low + c.args.span) c.args.offset c.args.values.now c.put_places-kept-in-loop-block.new.values c.put_places-kept-in-loop-block.result n) next
    (Filtering-eight _ _ _ _ _ _ _ c.mask_within-mask.result _ _ _ _ c.loop-block.invariant (omega arith) c.mask_within-mask.ensures.tests c.put_places-kept.ensures c.put_places-kept-in-loop-block.ensures (omega arith))
