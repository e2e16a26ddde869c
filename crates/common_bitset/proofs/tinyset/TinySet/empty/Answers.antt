use Rattle.common_bitset.specs.Laws.WordSets.{elements-zero}
use Rattle.common_bitset.proofs.tinyset.TinySet.empty.Goals as goal

pub returns : goal.returns
returns c = elements-zero
