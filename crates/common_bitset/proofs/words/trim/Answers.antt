use Rattle.common_bitset.specs.Laws.Gathered.{trim_none, trim_last}
use Rattle.common_bitset.proofs.words.trim.Goals as goal

pub returns-then-lower-ne0 : goal.returns-then-lower-ne0
returns-then-lower-ne0 c =
    trim_last c.args.words.now c.args.max_value c.requires.long c.requires.short c.index-words-last.result c.range_lower.result c.intersect.result c.if-lower-ne0.true c.index-words-last.is c.range_lower.ensures c.intersect.ensures

pub returns-else-lower-ne0 : goal.returns-else-lower-ne0
returns-else-lower-ne0 c = trim_none c.args.words.now c.args.max_value c.requires.long c.requires.short c.if-lower-ne0.false
