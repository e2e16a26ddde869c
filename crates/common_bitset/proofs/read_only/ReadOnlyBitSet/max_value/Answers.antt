use Rattle.std.proofs.Common.{subst}
use Rattle.common_bitset.specs.Subset.{IsProper}
use Rattle.common_bitset.specs.Laws.Stored.{IsProper-stored}
use Rattle.common_bitset.proofs.read_only.ReadOnlyBitSet.max_value.Goals as goal

pub returns-clause-proper : goal.returns-clause-proper
returns-clause-proper c = subst IsProper c.self.view_is (IsProper-stored c.self.invariant)
