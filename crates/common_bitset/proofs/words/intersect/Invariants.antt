use Rattle.std.specs.FinSet.{intersection}
use Rattle.common_bitset.specs.Subset.{word_at}
use Rattle.common_bitset.proofs.WordLoops.{Applied}
use Rattle.common_bitset.proofs.words.intersect.Given as goal

abbrev pub invariant-loop-k : goal.invariant-loop-k
invariant-loop-k l = Applied intersection l.initial.left (word_at l.right) l.left l.k l.count
