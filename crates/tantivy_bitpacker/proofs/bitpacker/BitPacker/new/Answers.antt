use Rattle.tantivy_bitpacker.proofs.Runs.{HasPacked-none}
use Rattle.tantivy_bitpacker.proofs.bitpacker.BitPacker.new.Goals as goal

pub returns-clause-run : goal.returns-clause-run
returns-clause-run c = λ sink. HasPacked-none sink
