use Rattle.common_bitset.specs.Laws.WordSets.{elements-low}
use Rattle.common_bitset.proofs.tinyset.TinySet.range_lower.Goals as goal

pub returns : goal.returns
returns c = elements-low c.args.upper_bound c.requires
