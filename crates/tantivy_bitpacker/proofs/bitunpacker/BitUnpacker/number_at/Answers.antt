use Rattle.std.proofs.Common.{◌*◌, ◌/◌, ◌%◌, ◌^◌, ap, ◌∙◌}
use Rattle.std.specs.Prelude.{bit_and}
use Rattle.std.proofs.lemmas.Nat.{and_mask}
use Rattle.tantivy_bitpacker.specs.Packed.{bits_from}
use Rattle.tantivy_bitpacker.proofs.Unpacking.{bits_from-word, spread-within}
use Rattle.tantivy_bitpacker.proofs.bitunpacker.BitUnpacker.number_at.Goals as goal

pub returns : goal.returns
returns c =
    let place = c.args.idx * c.self.inside.num_bits in
    ap (λ m. bit_and (c.word_at.result / 2 ^ (place % 8)) m) c.self.invariant.1 ∙ and_mask (c.word_at.result / 2 ^ (place % 8)) c.self.inside.num_bits
    ∙ ap (λ m. m / 2 ^ (place % 8) % 2 ^ c.self.inside.num_bits) c.word_at.ensures
    ∙ bits_from-word place c.self.inside.num_bits c.args.bytes.now (spread-within c.args.idx c.self.inside.num_bits c.self.invariant.0)
    ∙ ap (λ width. bits_from (c.args.idx * width) width c.args.bytes.now) c.self.view_is
