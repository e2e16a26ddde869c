use Rattle.std.proofs.Common.{◌≡◌, ◌-◌, [], Some, map, take, ap, ◌∙◌, subst, refl, arith}
use Rattle.std.proofs.lemmas.List.{take_all}
use Rattle.tantivy_bitpacker.specs.Packed.{HasPacked, packed_pieces, at_width}
use Rattle.tantivy_bitpacker.proofs.Blocks.{pack_above-more}
use Rattle.tantivy_bitpacker.proofs.blocked_bitpacker.pack_above.Goals as goal

pub loop-number-init : goal.loop-number-init
loop-number-init c = subst (λ l. HasPacked [] c.new-packer.result (Some l) (Some c.new-sink.result)) c.new-sink.ensures (c.new-packer.ensures.run (Some c.new-sink.result))

pub loop-number-preserved : goal.loop-number-preserved
loop-number-preserved c =
    pack_above-more c.args.base_value c.args.num_bits c.loop-number.number-index _ c.args.numbers.now c.loop-number.packer c.write.new.self (Some []) (Some c.loop-number.sink) (Some c.write.new.output) c.loop-number-test.true refl
    (c.in-Ok.ensures.run _ (Some [])) c.loop-number.invariant

pub returns-in-Ok-close : goal.returns-in-Ok-close
returns-in-Ok-close c =
    let whole : take c.loop-number.number-index c.args.numbers.now ≡ c.args.numbers.now = take_all c.loop-number.number-index c.args.numbers.now (omega arith) in
    c.into_bytes.ensures ∙ c.in-Ok-close.ensures.run _ (Some []) c.loop-number.invariant ∙ ap (λ l. packed_pieces (at_width c.args.num_bits (map (λ x. x - c.args.base_value) l))) whole
