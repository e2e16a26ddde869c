use Rattle.std.proofs.Common.{◌+◌, ◌*◌, ◌-◌, ◌≤◌, ◌++◌, length, take, map, ap, ◌∙◌, arith}
use Rattle.tantivy_bitpacker.specs.Packed.{unpacked_from}
use Rattle.tantivy_bitpacker.proofs.Decoding.{Decoded-none, Decoded-groups, group_begins-within}
use Rattle.tantivy_bitpacker.proofs.bitunpacker.BitUnpacker.get_groups.Goals as goal

pub returns-then-first-ne0-clause-decoded : goal.returns-then-first-ne0-clause-decoded
returns-then-first-ne0-clause-decoded g c = Decoded-none c.args.from (c.args.start + c.args.from) c.args.self.now (map g.T.Unpacked.number c.args.output.now) c.args.bytes.now

pub split_at-requires : goal.split_at-requires
split_at-requires g c =
    let within : (c.args.start + length c.args.output.now) * c.self.inside.num_bits ≤ 8 * length c.args.bytes.now = rw c.self.view_is c.requires.within in
    group_begins-within (c.args.start + c.args.from) (c.args.start + length c.args.output.now) c.self.inside.num_bits (length c.args.bytes.now) (omega arith) within

pub returns-then-groups-eq0-clause-decoded : goal.returns-then-groups-eq0-clause-decoded
returns-then-groups-eq0-clause-decoded g c = Decoded-none c.args.from (c.args.start + c.args.from) c.args.self.now (map g.T.Unpacked.number c.args.output.now) c.args.bytes.now

pub returns-clause-decoded : goal.returns-clause-decoded
returns-clause-decoded g c =
    Decoded-groups c.args.start c.args.from c.groups_within-groups.result c.self.inside.num_bits (map g.T.Unpacked.number c.args.output.now) (map g.T.Unpacked.number c.unpack_groups_of.new.output) c.args.bytes.now _ c.if-first-ne0.false c.split_at.ensures.back c.unpack_groups_of.ensures
    ∙ ap (λ width. take c.args.from (map g.T.Unpacked.number c.args.output.now) ++ unpacked_from (c.args.start + c.args.from) (c.args.from + 8 * c.groups_within-groups.result - c.args.from) width c.args.bytes.now) c.self.view_is
