use Rattle.std.proofs.Common.{◌≡◌, ◌+◌, ◌++◌, take, map}
use Rattle.tantivy_bitpacker.specs.Packed.{unpacked_from}
use Rattle.tantivy_bitpacker.proofs.groups.unpack_group.Given as goal

abbrev pub invariant-loop-i : goal.invariant-loop-i
invariant-loop-i g l = take (l.at + l.i) (map g.T.Unpacked.number l.output) ≡ take l.at (map g.T.Unpacked.number l.initial.output) ++ unpacked_from 0 l.i g.row.W l.bytes
