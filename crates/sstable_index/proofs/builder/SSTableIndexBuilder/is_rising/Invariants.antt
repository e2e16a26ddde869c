use Rattle.std.proofs.Common.{◌≡◌, ◌-◌, ◌≤◌, drop}
use Rattle.owned_bytes.specs.Keys.{is_rising}
use Rattle.sstable_blocks.specs.Writing.{keys_in}
use Rattle.sstable_index.proofs.builder.SSTableIndexBuilder.is_rising.Given as goal

abbrev pub invariant-loop-i : goal.invariant-loop-i
invariant-loop-i l = (is_rising (drop (l.i - 1) (keys_in l.self)) ≡ is_rising (keys_in l.self)) × (1 ≤ l.i)
