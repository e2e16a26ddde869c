use Rattle.std.proofs.Common.{arith}
use Rattle.tantivy_bitpacker.proofs.Words.{high_word_is, high_word_none}
use Rattle.tantivy_bitpacker.proofs.bitpacker.high_word.Goals as goal

pub returns-then-written-eq0 : goal.returns-then-written-eq0
returns-then-written-eq0 c = high_word_none c.args.held c.args.written c.args.val c.if-written-eq0.true c.requires.held c.ranges.val.fits

pub returns-else-written-eq0 : goal.returns-else-written-eq0
returns-else-written-eq0 c = high_word_is c.args.held c.args.written c.args.val (omega arith) c.requires.written c.requires.held
