-- Single addresses of a store.
use Rattle.std.specs.Prelude.{ℕ, zero, suc, ◌+◌, ◌*◌, ◌/◌, ◌%◌, List, [], ◌∷◌, drop, Option, Some, None, nat_le}
use Rattle.owned_bytes.specs.Front.{◌>>=◌, provided}
use Rattle.sstable_values.specs.Codec.{Address}
use Rattle.sstable_format.specs.Meta.{Meta}
use Rattle.sstable_format.specs.Store.{stored_bits, deviated, address_of}

-- the element at a place, where there is one
abbrev pub element_at : {A : Type 0} → List A → ℕ → Option A
element_at [] i = None
element_at (x ∷ xs) zero = Some x
element_at (x ∷ xs) (suc i) = element_at xs i

-- the number that is stored at a bit: the j-th of a line of this slope, from the base on
abbrev pub number_of : ℕ → ℕ → ℕ → ℕ → ℕ → List ℕ → Option ℕ
number_of slope bits base j place packed = do
  stored ← stored_bits place bits packed
  deviated (base + slope * j) bits stored

-- The address of block i, where there is one. It stands in meta i / 128.
abbrev pub address_in : List Meta → List ℕ → ℕ → Option Address
address_in metas packed i = do
  m ← element_at metas (i / 128)
  _ ← provided (nat_le (i % 128 + 1) m.block_count)
  address_of m (drop m.data_offset packed) (i % 128)
