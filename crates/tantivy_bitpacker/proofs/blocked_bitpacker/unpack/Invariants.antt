use Rattle.std.proofs.Common.{◌≡◌, take}
use Rattle.tantivy_bitpacker.specs.Blocked.{block_numbers}
use Rattle.tantivy_bitpacker.proofs.blocked_bitpacker.unpack.Given as goal

abbrev pub invariant-loop-i : goal.invariant-loop-i
invariant-loop-i l = l.numbers.items ≡ take l.i (block_numbers l.block)
