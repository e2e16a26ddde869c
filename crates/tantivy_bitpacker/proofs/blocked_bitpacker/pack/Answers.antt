use Rattle.std.proofs.Common.{◌-◌, ◌^◌, ◌<◌, length, refl, arith}
use Rattle.std.proofs.lemmas.List.Elements.{All-map}
use Rattle.tantivy_bitpacker.specs.declared.blocked_bitpacker.PackedBlock.{PackedBlock}
use Rattle.tantivy_bitpacker.proofs.Blocks.{IsBlock-packed, block_from_numbers}
use Rattle.tantivy_bitpacker.proofs.blocked_bitpacker.pack.Goals as goal

pub pack_above-requires-clause-fits : goal.pack_above-requires-clause-fits
pack_above-requires-clause-fits c = λ k d below. omega (arith, c.extremes-least.ensures.greatest k d below, c.compute_num_bits-num_bits.ensures.holds)

pub returns-clause-numbers : goal.returns-clause-numbers
returns-clause-numbers c =
    let block : PackedBlock = record { base_value = c.extremes-least.result.0; num_bits = c.compute_num_bits-num_bits.result; count = length c.args.numbers.now; bytes = c.in_ok-bytes.bytes } in
    IsBlock-packed block c.args.numbers.now refl c.requires.few c.compute_num_bits-num_bits.ensures.allowed c.extremes-least.ensures.least
    (All-map (λ value. value < 2 ^ c.compute_num_bits-num_bits.result) (λ x. x - c.extremes-least.result.0) c.args.numbers.now (λ k d below. omega (arith, c.extremes-least.ensures.greatest k d below, c.compute_num_bits-num_bits.ensures.holds))) c.in_ok-bytes.ensures

pub returns-clause-block : goal.returns-clause-block
returns-clause-block c =
    let block : PackedBlock = record { base_value = c.extremes-least.result.0; num_bits = c.compute_num_bits-num_bits.result; count = length c.args.numbers.now; bytes = c.in_ok-bytes.bytes } in
    block_from_numbers block c.args.numbers.now refl c.requires.few c.compute_num_bits-num_bits.ensures.allowed c.in_ok-bytes.ensures (returns-clause-numbers c) c.type_inv.numbers
