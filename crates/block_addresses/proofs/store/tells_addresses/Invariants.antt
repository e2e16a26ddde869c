use Rattle.std.proofs.Common.{◌≡◌, length}
use Rattle.block_addresses.specs.Opened.{tells_after}
use Rattle.block_addresses.proofs.store.tells_addresses.Given as goal

abbrev pub invariant-metas : goal.invariant-metas
invariant-metas l = tells_after l.ordinal l.rest l.packed ≡ tells_after 0 l.metas l.packed

abbrev pub decreases-metas : goal.decreases-metas
decreases-metas l = length l.rest
