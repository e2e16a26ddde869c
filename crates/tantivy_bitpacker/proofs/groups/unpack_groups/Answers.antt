use Rattle.std.proofs.Common.{map}
use Rattle.tantivy_bitpacker.proofs.Decoding.{Decoded-begin, Decoded-group}
use Rattle.tantivy_bitpacker.proofs.groups.unpack_groups.Goals as goal

pub loop-group-init : goal.loop-group-init
loop-group-init g c = Decoded-begin c.args.at 0 g.row.W (map g.T.Unpacked.number c.args.output.now) c.args.bytes.now

pub loop-group-preserved : goal.loop-group-preserved
loop-group-preserved g c =
    let number = g.T.Unpacked.number in
    Decoded-group c.args.at c.loop-group.group g.row.W _ (map number c.loop-group.output) (map number c.unpack_group.new.output) c.args.bytes.now c.loop-group.invariant c.unpack_group.ensures
