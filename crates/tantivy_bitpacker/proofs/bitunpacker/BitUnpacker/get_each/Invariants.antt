use Rattle.std.proofs.Common.{◌≡◌, ◌+◌, ◌-◌, ◌++◌, take, map}
use Rattle.tantivy_bitpacker.specs.Packed.{unpacked_from}
use Rattle.tantivy_bitpacker.proofs.bitunpacker.BitUnpacker.get_each.Given as goal

abbrev pub invariant-loop-i : goal.invariant-loop-i
invariant-loop-i g l = take l.i (map g.T.Unpacked.number l.output) ≡ take l.from (map g.T.Unpacked.number l.initial.output) ++ unpacked_from (l.start + l.from) (l.i - l.from) l.self l.bytes
