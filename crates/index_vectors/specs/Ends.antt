-- Where the blocks of an index end.
use Rattle.std.specs.Prelude.{◌≡◌, ℕ, List, true}
use Rattle.sstable_values.specs.Codec.{last_is}
use Rattle.sstable_format.specs.Index.{IndexEntry}
use Rattle.sstable_index.specs.Building.{comes_next, address_of, addresses_in}

-- a block may start at the place whose first key has this position
abbrev pub EndsAt : List IndexEntry → ℕ → ℕ → Type 0
EndsAt entries place ordinal = last_is (λ before. comes_next before (record { start = place; end = place; first_ordinal = ordinal })) (addresses_in entries) ≡ true
