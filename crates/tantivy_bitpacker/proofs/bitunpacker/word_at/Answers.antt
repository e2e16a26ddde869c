use Rattle.std.proofs.Common.{◌∙◌}
use Rattle.tantivy_bitpacker.proofs.Loads.{AreBytes-from_fits, first_word}
use Rattle.tantivy_bitpacker.proofs.bitunpacker.word_at.Goals as goal

pub returns-in-Some : goal.returns-in-Some
returns-in-Some c = c.from_le_bytes.ensures ∙ first_word c.args.bytes.now c.in-Some.word.now c.args.place (AreBytes-from_fits c.args.bytes.now c.type_inv.bytes) c.in-Some.ensures.cases
