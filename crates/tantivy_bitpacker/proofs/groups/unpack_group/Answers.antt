use Rattle.std.proofs.Common.{◌+◌, map, take, ap, ◌∙◌, arith}
use Rattle.std.proofs.lemmas.List.{map-set, length-map}
use Rattle.tantivy_bitpacker.proofs.Unpacking.{bits_from-fits}
use Rattle.tantivy_bitpacker.proofs.Decoding.{Decoded-begin, Decoded-more}
use Rattle.tantivy_bitpacker.proofs.groups.unpack_group.Goals as goal

pub of-requires : goal.of-requires
of-requires g c = bits_from-fits _ g.row.W g.T.Unpacked.most_bits c.number_of_group.result c.args.bytes.now c.number_of_group.ensures c.requires.fit

pub loop-i-init : goal.loop-i-init
loop-i-init g c = Decoded-begin c.args.at 0 g.row.W (map g.T.Unpacked.number c.args.output.now) c.args.bytes.now

pub loop-i-preserved : goal.loop-i-preserved
loop-i-preserved g c =
    let number = g.T.Unpacked.number in
    ap (take (c.args.at + (c.loop-i.i + 1))) (map-set number c.loop-i.output (c.args.at + c.loop-i.i) c.of.result)
    ∙ Decoded-more c.args.at c.loop-i.i 0 g.row.W (number c.of.result) _ (map number c.args.output.now) (map number c.loop-i.output) c.args.bytes.now c.loop-i.invariant (omega (arith, length-map c.loop-i.output number)) (omega arith)
    (c.of.ensures ∙ c.number_of_group.ensures)
