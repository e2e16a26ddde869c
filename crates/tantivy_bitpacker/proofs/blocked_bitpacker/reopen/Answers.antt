use Rattle.std.proofs.Common.{length, ap, arith}
use Rattle.tantivy_bitpacker.proofs.Blocks.{block_numbers-length}
use Rattle.tantivy_bitpacker.proofs.blocked_bitpacker.reopen.Goals as goal

pub returns-in_ok-buffer-clause-few : goal.returns-in_ok-buffer-clause-few
returns-in_ok-buffer-clause-few c = λ few.
    omega (arith, c.in_ok-buffer.field-0.ok.0, ap length c.in_ok-buffer.ensures, block_numbers-length c.args.tail.now, c.requires.block.few)
