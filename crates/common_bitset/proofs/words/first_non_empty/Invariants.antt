use Rattle.std.proofs.Common.{◌≡◌, ℕ, ◌<◌, ◌≤◌}
use Rattle.std.specs.FinSet.{empty}
use Rattle.common_bitset.specs.Subset.{word_at}
use Rattle.common_bitset.proofs.words.first_non_empty.Given as goal

abbrev pub invariant-loop-k : goal.invariant-loop-k
invariant-loop-k l = (k : ℕ) → l.from ≤ k → k < l.k → word_at l.words k ≡ empty
