use Rattle.std.proofs.Common.{ℕ, ◌-◌, ◌<◌, ◌≤◌, List, length, get_or}
use Rattle.sstable_values.specs.Codec.{Address}
use Rattle.block_addresses.specs.Opened.{ordinals_of}
use Rattle.block_addresses.proofs.store.AddressStore.locate_with_ord.Given as goal

-- the block that is looked for is at low or above, and below high
pub record Halves (addresses : List Address) (ord low high : ℕ) : Type 0 where
  pub ordered : low < high
  pub within : high ≤ length addresses
  pub at_most : 0 < low → get_or (ordinals_of addresses) low 0 ≤ ord
  pub above : high < length addresses → ord < get_or (ordinals_of addresses) high 0

abbrev pub invariant-halve : goal.invariant-halve
invariant-halve l = Halves l.self l.ord l.low l.high

abbrev pub decreases-halve : goal.decreases-halve
decreases-halve l = l.high - l.low
