use Rattle.std.proofs.Common.{◌≡◌, ◌-◌, ◌≤◌, ◌++◌, length, take, drop}
use Rattle.block_addresses.specs.Shortened.{shortened}
use Rattle.sstable_index.proofs.Shortening.{kept_from}
use Rattle.sstable_index.proofs.key_buffer.shorten_from.Given as goal

abbrev pub invariant-high : goal.invariant-high
invariant-high l = (kept_from l.start l.place l.keys.items ≡ take l.start l.keys.items ++ shortened (drop l.start l.keys.items) l.right) × (l.start ≤ l.place)

abbrev pub decreases-high : goal.decreases-high
decreases-high l = length l.keys.items - l.place
