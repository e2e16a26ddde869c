use Rattle.std.proofs.Common.{◌≡◌, ◌+◌, ◌*◌, ◌++◌, take, map}
use Rattle.tantivy_bitpacker.specs.Packed.{unpacked_from}
use Rattle.tantivy_bitpacker.proofs.groups.unpack_groups.Given as goal

abbrev pub invariant-loop-group : goal.invariant-loop-group
invariant-loop-group g l = take (l.at + 8 * l.group) (map g.T.Unpacked.number l.output) ≡ take l.at (map g.T.Unpacked.number l.initial.output) ++ unpacked_from 0 (8 * l.group) g.row.W l.bytes
