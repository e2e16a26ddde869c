-- A line 'unfolding computes' lets the definitions of this crate compute.
use Rattle.owned_bytes.specs.Computes as bytes
use Rattle.sstable_format.specs.Computes as tables
use Rattle.tantivy_bitpacker.specs.Packed.{bytes_of, total_width, joined, digits_upto, num_bits}
use Rattle.block_addresses.specs.Lines.{numbered_from, flattest, steepest, greatest_deviation}
use Rattle.block_addresses.specs.Written.{addresses_between, steps_upto, deviations, metas_of, all_packed}
use Rattle.block_addresses.specs.Opened.{can_follow}
use Rattle.block_addresses.specs.Shortened.{raised, shortened}

unfoldable pub computes : Unit {0}
unfolding tables.computes bytes.computes bytes_of total_width joined digits_upto num_bits numbered_from flattest steepest greatest_deviation addresses_between steps_upto deviations metas_of all_packed can_follow raised shortened
computes = tt
