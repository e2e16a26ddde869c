use Rattle.std.proofs.Common.{sym, ap, ◌∙◌, arith}
use Rattle.std.proofs.lemmas.List.{map-id}
use Rattle.tantivy_bitpacker.specs.Packed.{unpacked_from}
use Rattle.tantivy_bitpacker.proofs.Decoding.{lent_whole}
use Rattle.tantivy_bitpacker.proofs.bitunpacker.BitUnpacker.numbers_u32.Goals as goal

pub returns : goal.returns
returns c =
    lent_whole c.in_ok-numbers.numbers.items c.unpack.new.output c.in_ok-numbers.numbers.len
    (omega (arith, c.unpack.auto.output, c.as_mut_slice.ensures.len, c.in_ok-numbers.numbers.ok.0, c.in_ok-numbers.ensures.len)) c.in_ok-numbers.numbers.ok.0
    ∙ sym (map-id c.unpack.new.output) ∙ c.unpack.ensures
    ∙ ap (λ n. unpacked_from c.args.start_idx n c.args.self.now c.args.bytes.now) (omega (arith, c.as_mut_slice.ensures.len, c.in_ok-numbers.numbers.ok.0, c.in_ok-numbers.ensures.len))
