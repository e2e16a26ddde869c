use Rattle.std.specs.FinSet.{intersection}
use Rattle.common_bitset.specs.Subset.{stored_word}
use Rattle.common_bitset.specs.Laws.Stored.{Stores}
use Rattle.common_bitset.proofs.read_only.met_words.Given as goal

abbrev pub invariant-loop-k : goal.invariant-loop-k
invariant-loop-k l = Stores l.bytes.items l.k (λ k. intersection (stored_word l.left k) (stored_word l.right k))
