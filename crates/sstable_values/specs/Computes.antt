-- A line 'unfolding computes' lets the definitions of this crate compute.
use Rattle.owned_bytes.specs.Computes as bytes
use Rattle.sstable_values.specs.Vint.{vint, vint_at, groups, groups_at}
use Rattle.sstable_values.specs.Codec.{sums_at, rising_numbers_at, sums, addresses_at, addresses, void, monotonic_u64, range, vec_u32, index}

unfoldable pub computes : Unit {0}
unfolding bytes.computes vint vint_at groups groups_at sums_at rising_numbers_at sums addresses_at addresses void monotonic_u64 range vec_u32 index
computes = tt
