use Rattle.std.proofs.Common.{◌≡◌, take, All}
use Rattle.std.specs.List.{flat_map}
use Rattle.tantivy_bitpacker.specs.Blocked.{block_numbers, IsFullBlock}
use Rattle.tantivy_bitpacker.proofs.blocked_bitpacker.copies_of.Given as goal

abbrev pub invariant-loop-block : goal.invariant-loop-block
invariant-loop-block l = record {
  full : All IsFullBlock l.copies.items;
  numbers : flat_map block_numbers l.copies.items ≡ flat_map block_numbers (take l.block-index l.blocks);
}
