use Rattle.std.proofs.Common.{◌≡◌, drop}
use Rattle.block_addresses.specs.Opened.{can_follow}
use Rattle.sstable_index.proofs.index_v2.can_index.Given as goal

abbrev pub invariant-loop-i : goal.invariant-loop-i
invariant-loop-i l = can_follow l.ordinal (drop l.i l.addresses) ≡ can_follow 0 l.addresses
