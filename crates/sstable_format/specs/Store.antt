-- The address store: lines that predict the starts and ordinals of up to 128 blocks, and the packed deviations from them.
use Rattle.std.specs.Prelude.{ℕ, zero, suc, ◌+◌, ◌-◌, ◌*◌, ◌^◌, List, [], ◌∷◌, ◌++◌, length, drop, Bool, true, Option, Some, nat_le, ◌&&◌, ◌==◌}
use Rattle.std.specs.Int.{w64}
use Rattle.owned_bytes.specs.Front.{◌>>=◌, provided, number_at, bytes_at, Front, End, piece_or_fault, pieces, each}
use Rattle.tantivy_bitpacker.specs.Packed.{bits_from}
use Rattle.sstable_values.specs.Codec.{Address}
use Rattle.sstable_format.specs.Meta.{Meta}
unfoldable use Rattle.sstable_format.specs.Meta.{meta_at}

abbrev pub front_of_metas : List ℕ → Front Meta
front_of_metas [] = End
front_of_metas (b ∷ bytes) = piece_or_fault (meta_at (b ∷ bytes))

-- so many bits from a place on, where they lie within the bytes
abbrev pub stored_bits : ℕ → ℕ → List ℕ → Option ℕ
stored_bits place width bytes = do
  _ ← provided (nat_le (place + width) (8 * length bytes))
  Some (bits_from place width bytes)

-- what a number of so many bits stands for at a point of a line: it is stored with half of its range added, and no result is below 0
abbrev pub deviated : ℕ → ℕ → ℕ → Option ℕ
deviated point bits stored = do
  _ ← provided (nat_le (2 ^ (bits - 1)) (point + stored))
  Some (point + stored - 2 ^ (bits - 1))

-- The bit at which block j's start is stored, from block 1 on. Behind it stands its ordinal. Behind the last block's stands
-- the start that a next block would have.
abbrev pub stored_place : Meta → ℕ → ℕ
stored_place m j = (j - 1) * (m.range_bits + m.ordinal_bits)

-- where block j starts; the last block ends where a next block would start
unfoldable pub start_of : Meta → List ℕ → ℕ → Option ℕ
start_of m packed zero = Some m.range_start
start_of m packed (suc i) = do
  stored ← stored_bits (stored_place m (suc i)) m.range_bits packed
  deviated (m.range_start + m.range_slope * suc i) m.range_bits stored

-- the position of the first key of block j
unfoldable pub ordinal_of : Meta → List ℕ → ℕ → Option ℕ
ordinal_of m packed zero = Some m.first_ordinal
ordinal_of m packed (suc i) = do
  stored ← stored_bits (stored_place m (suc i) + m.range_bits) m.ordinal_bits packed
  deviated (m.first_ordinal + m.ordinal_slope * suc i) m.ordinal_bits stored

abbrev pub address_of : Meta → List ℕ → ℕ → Option Address
address_of m packed j = do
  start ← start_of m packed j
  end ← start_of m packed (j + 1)
  ordinal ← ordinal_of m packed j
  Some (record { start = start; end = end; first_ordinal = ordinal })

-- so many numbers from j on
unfoldable pub numbers_from : ℕ → ℕ → List ℕ
numbers_from j zero = []
numbers_from j (suc n) = j ∷ numbers_from (j + 1) n

abbrev pub are_bits : ℕ → Bool
are_bits bits = nat_le 1 bits && nat_le bits 56

abbrev pub addresses_of_meta : List ℕ → Meta → Option (List Address)
addresses_of_meta packed m = do
  _ ← provided (are_bits m.range_bits && are_bits m.ordinal_bits)
  each (address_of m (drop m.data_offset packed)) (numbers_from 0 m.block_count)

-- every meta but the last has 128 blocks, and the last at most as many
unfoldable pub are_filled : List Meta → Bool
are_filled [] = true
are_filled (m ∷ []) = nat_le m.block_count 128
are_filled (m ∷ next ∷ metas) = (m.block_count == 128) && are_filled (next ∷ metas)

unfoldable pub joined : {A : Type 0} → List (List A) → List A
joined [] = []
joined (xs ∷ others) = xs ++ joined others

-- the addresses that a store holds
unfoldable pub store_of : List ℕ → Option (List Address)
store_of bytes = do
  len ← number_at w64 bytes
  metas ← bytes_at len.0 len.1
  found ← pieces front_of_metas metas.0
  _ ← provided (are_filled found.0)
  addresses ← each (addresses_of_meta metas.1) found.0
  Some (joined addresses)
