use Rattle.common_bitset.specs.Laws.WordSets.{elements-shl}
use Rattle.common_bitset.proofs.tinyset.TinySet.singleton.Goals as goal

pub returns : goal.returns
returns c = elements-shl c.args.el c.requires
