use Rattle.std.specs.FinSet.{empty}
use Rattle.common_bitset.proofs.WordLoops.{Mapped}
use Rattle.common_bitset.proofs.words.clear.Given as goal

abbrev pub invariant-loop-word : goal.invariant-loop-word
invariant-loop-word l = Mapped (λ _. empty) l.initial.words l.words l.word-index
