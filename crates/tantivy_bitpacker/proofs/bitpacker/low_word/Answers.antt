use Rattle.tantivy_bitpacker.proofs.Words.{low_word_is}
use Rattle.tantivy_bitpacker.proofs.bitpacker.low_word.Goals as goal

pub returns : goal.returns
returns c = low_word_is c.args.held c.args.written c.args.val c.requires.written c.requires.held
