use Rattle.std.proofs.Common.{◌≡◌, take}
use Rattle.tantivy_bitpacker.specs.Packed.{unpacked_from}
use Rattle.tantivy_bitpacker.proofs.plain.get_range.Given as goal

abbrev pub invariant-loop-i : goal.invariant-loop-i
invariant-loop-i l = take l.i l.output ≡ unpacked_from l.start_idx l.i l.unpacker l.bytes
