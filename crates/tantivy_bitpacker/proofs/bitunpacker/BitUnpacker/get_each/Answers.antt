use Rattle.std.proofs.Common.{◌+◌, map, take, ap, ◌∙◌, arith}
use Rattle.std.proofs.lemmas.List.{map-set, length-map}
use Rattle.tantivy_bitpacker.proofs.Unpacking.{bits_from-fits}
use Rattle.tantivy_bitpacker.proofs.Decoding.{Decoded-none, Decoded-next}
use Rattle.tantivy_bitpacker.proofs.bitunpacker.BitUnpacker.get_each.Goals as goal

pub of-requires : goal.of-requires
of-requires g c = bits_from-fits _ c.args.self.now g.T.Unpacked.most_bits c.number_at.result c.args.bytes.now c.number_at.ensures c.requires.fit

pub loop-i-init : goal.loop-i-init
loop-i-init g c = Decoded-none c.args.from (c.args.start + c.args.from) c.args.self.now (map g.T.Unpacked.number c.args.output.now) c.args.bytes.now

pub loop-i-preserved : goal.loop-i-preserved
loop-i-preserved g c =
    let number = g.T.Unpacked.number in
    ap (take (c.loop-i.i + 1)) (map-set number c.loop-i.output c.loop-i.i c.of.result)
    ∙ Decoded-next c.args.start c.args.from c.loop-i.i c.args.self.now (number c.of.result) _ (map number c.loop-i.output) c.args.bytes.now (omega arith) (omega (arith, length-map c.loop-i.output number)) c.loop-i.invariant
    (c.of.ensures ∙ c.number_at.ensures)
