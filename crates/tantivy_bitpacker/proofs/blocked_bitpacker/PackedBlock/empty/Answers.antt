use Rattle.std.proofs.Common.{refl}
use Rattle.tantivy_bitpacker.specs.Packed.{unpacked_from}
use Rattle.tantivy_bitpacker.proofs.Blocks.{empty_block}
use Rattle.tantivy_bitpacker.proofs.blocked_bitpacker.PackedBlock.empty.Goals as goal

pub returns-clause-block : goal.returns-clause-block
returns-clause-block c = empty_block _ refl refl

pub returns-clause-numbers : goal.returns-clause-numbers
unfolding unpacked_from
returns-clause-numbers c = refl
