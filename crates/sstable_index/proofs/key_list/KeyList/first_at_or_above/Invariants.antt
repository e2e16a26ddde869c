use Rattle.std.proofs.Common.{◌-◌}
use Rattle.sstable_index.proofs.KeysKept.{IsBetween}
use Rattle.sstable_index.proofs.key_list.KeyList.first_at_or_above.Given as goal

abbrev pub invariant-halve : goal.invariant-halve
invariant-halve l = IsBetween l.self l.key l.low l.high

abbrev pub decreases-halve : goal.decreases-halve
decreases-halve l = l.high - l.low
