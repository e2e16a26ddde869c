use Rattle.std.proofs.Common.{◌≡◌, ◌-◌}
use Rattle.owned_bytes.specs.Front.{each}
use Rattle.sstable_format.specs.Store.{address_of, numbers_from, addresses_of_meta}
use Rattle.block_addresses.specs.Opened.{ordinal_after}
use Rattle.block_addresses.proofs.meta.ordinal_after.Given as goal

abbrev pub invariant-loop-j : goal.invariant-loop-j
invariant-loop-j l =
    ordinal_after (each (address_of l.meta l.part) (numbers_from l.j (l.meta.block_count - l.j))) l.ordinal ≡ ordinal_after (addresses_of_meta l.packed l.meta) l.fn.ordinal
