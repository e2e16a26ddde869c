use Rattle.std.proofs.Common.{◌≡◌, length}
use Rattle.query_tree.specs.Reader as reader
use Rattle.tantivy_query_grammar.specs.Classes.{test_of}
use Rattle.tantivy_query_grammar.proofs.reading.skip.Given as goal

abbrev pub invariant-loop-after : goal.invariant-loop-after
invariant-loop-after l = reader.skip (test_of l.class) l.at.text.now ≡ reader.skip (test_of l.class) l.rest.text.now

abbrev pub decreases-loop-after : goal.decreases-loop-after
decreases-loop-after l = length l.rest.text.now
