use Rattle.std.proofs.Common.{◌≡◌, length, map, ap, ◌∙◌, arith}
use Rattle.std.proofs.lemmas.List.{length-map}
use Rattle.tantivy_bitpacker.specs.Packed.{unpacked_from}
use Rattle.tantivy_bitpacker.proofs.Decoding.{Decoded-then, Decoded-all}
use Rattle.tantivy_bitpacker.proofs.bitunpacker.BitUnpacker.unpack.Goals as goal

pub returns : goal.returns
returns g c =
    let number = g.T.Unpacked.number in
    let width = c.args.self.now in
    let count = length c.args.output.now in
    let long : length (map number c.get_each-2.new.output) ≡ count = omega (arith, length-map c.get_each-2.new.output number, c.get_each-2.auto.output, c.get_groups-end.auto.output, c.get_each.auto.output) in
    let front = Decoded-then c.args.start_idx 0 c.min-lead.result c.get_groups-end.result width (map number c.args.output.now) (map number c.get_each.new.output) (map number c.get_groups-end.new.output) c.args.bytes.now (omega arith) c.get_groups-end.ensures.after c.get_each.ensures c.get_groups-end.ensures.decoded in
    let all = Decoded-then c.args.start_idx 0 c.get_groups-end.result count width (map number c.args.output.now) (map number c.get_groups-end.new.output) (map number c.get_each-2.new.output) c.args.bytes.now (omega arith) (omega (arith, c.get_groups-end.ensures.bound, c.get_each.auto.output)) front c.get_each-2.ensures in
    Decoded-all c.args.start_idx width (map number c.args.output.now) (map number c.get_each-2.new.output) c.args.bytes.now (rw long all) ∙ ap (λ n. unpacked_from c.args.start_idx n width c.args.bytes.now) long
