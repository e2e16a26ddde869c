use Rattle.std.proofs.Common.{subst}
use Rattle.common_bitset.specs.Subset.{IsProper}
use Rattle.common_bitset.specs.Laws.Laid.{IsProper-laid}
use Rattle.common_bitset.proofs.bitset.BitSet.max_value.Goals as goal

pub returns-clause-proper : goal.returns-clause-proper
returns-clause-proper c = subst IsProper c.self.view_is (IsProper-laid c.self.invariant)
