use Rattle.std.proofs.Common.{length}
use Rattle.tantivy_query_grammar.proofs.reading.+after_tag.Given as goal

abbrev pub decreases-after_tag : goal.decreases-after_tag
decreases-after_tag l = length l.word.now
