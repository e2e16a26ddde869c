-- A line 'unfolding computes' lets the definitions of this crate compute.
use Rattle.owned_bytes.specs.Front.{counted, pieces, pieces_upto, each}
use Rattle.owned_bytes.specs.Keys.{is_rising, with_key, key_set}

unfoldable pub computes : Unit {0}
unfolding counted pieces pieces_upto each is_rising with_key key_set
computes = tt
