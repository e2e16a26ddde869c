use Rattle.common_bitset.specs.Subset.{word_in}
use Rattle.common_bitset.specs.Laws.Stored.{Stores}
use Rattle.common_bitset.proofs.read_only.written_words.Given as goal

abbrev pub invariant-loop-k : goal.invariant-loop-k
invariant-loop-k l = Stores l.bytes.items l.k (word_in l.bitset.elements)
