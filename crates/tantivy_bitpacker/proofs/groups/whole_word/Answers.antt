use Rattle.std.proofs.Common.{◌∙◌}
use Rattle.tantivy_bitpacker.proofs.Loads.{AreBytes-from_fits, first_word}
use Rattle.tantivy_bitpacker.proofs.groups.whole_word.Goals as goal

pub returns : goal.returns
returns c = c.from_le_bytes.ensures ∙ first_word c.args.bytes.now c.unwrap-word.result.now c.args.at (AreBytes-from_fits c.args.bytes.now c.type_inv.bytes) (rw c.unwrap-word.ensures at c.first_chunk.ensures.cases)
