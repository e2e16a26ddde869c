use Rattle.std.specs.FinSet.{union}
use Rattle.common_bitset.specs.Subset.{word_at}
use Rattle.common_bitset.proofs.WordLoops.{Applied}
use Rattle.common_bitset.proofs.words.unite.Given as goal

abbrev pub invariant-loop-k : goal.invariant-loop-k
invariant-loop-k l = Applied union l.initial.left (word_at l.right) l.left l.k l.count
