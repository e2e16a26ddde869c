use Rattle.std.specs.FinSet.{difference}
use Rattle.common_bitset.specs.Numbers.{below}
use Rattle.common_bitset.proofs.WordLoops.{Mapped}
use Rattle.common_bitset.proofs.words.complement.Given as goal

abbrev pub invariant-loop-word : goal.invariant-loop-word
invariant-loop-word l = Mapped (difference (below 64)) l.initial.words l.words l.word-index
