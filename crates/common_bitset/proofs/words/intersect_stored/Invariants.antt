use Rattle.std.specs.FinSet.{intersection}
use Rattle.common_bitset.specs.Subset.{stored_word}
use Rattle.common_bitset.proofs.WordLoops.{Applied}
use Rattle.common_bitset.proofs.words.intersect_stored.Given as goal

abbrev pub invariant-loop-k : goal.invariant-loop-k
invariant-loop-k l = Applied intersection l.initial.left (stored_word l.right) l.left l.k l.count
