use Rattle.std.proofs.Common.{◌∙◌}
use Rattle.tantivy_bitpacker.proofs.Loads.{AreBytes-from_fits, padded_word}
use Rattle.tantivy_bitpacker.proofs.bitunpacker.last_word.Goals as goal

pub returns : goal.returns
returns c = c.from_le_bytes.ensures ∙ padded_word c.args.rest.now c.padded.result (AreBytes-from_fits c.args.rest.now c.type_inv.rest) c.requires c.padded.ensures
