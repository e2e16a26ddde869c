-- What an address store tells of the blocks of a table.
use Rattle.std.specs.Prelude.{◌≡◌, ℕ, ◌*◌, ◌^◌, ◌≤◌, List, [], ◌∷◌, length, drop, Bool, true, false, nat_le, nat_lt, ◌&&◌, map, Option, None, Some, option_map, is_some, unwrap_or}
use Rattle.owned_bytes.specs.Front.{◌>>=◌, provided, pieces, each}
use Rattle.sstable_values.specs.Codec.{Address}
use Rattle.sstable_format.specs.Meta.{Meta, meta_at}
use Rattle.sstable_format.specs.Store.{front_of_metas, are_filled, addresses_of_meta, joined, store_of}

-- the value, where it passes a test
abbrev pub passing : {A : Type 0} → (A → Bool) → Option A → Option A
passing test found = do
  x ← found
  _ ← provided (test x)
  Some x

-- a number of 64 bits
abbrev pub fits_u64 : ℕ → Bool
fits_u64 n = nat_lt n (2 ^ 64)

-- its numbers have 64 bits
abbrev pub fits_address : Address → Bool
fits_address a = fits_u64 a.start && (fits_u64 a.end && fits_u64 a.first_ordinal)

-- the range doesn't run backwards, and the ordinal isn't below this one
abbrev pub rises_from : ℕ → Address → Bool
rises_from ordinal a = nat_le a.start a.end && nat_le ordinal a.first_ordinal

-- a table's block can have this address, after a block with this ordinal
abbrev pub may_follow : ℕ → Address → Bool
may_follow ordinal a = fits_address a && rises_from ordinal a

-- a table's blocks can have these addresses, after a block with this ordinal
unfoldable pub can_follow : ℕ → List Address → Bool
can_follow ordinal [] = true
can_follow ordinal (a ∷ others) = may_follow ordinal a && can_follow a.first_ordinal others

-- a table's blocks can have these addresses, and their number has 64 bits
abbrev pub can_index : List Address → Bool
can_index addresses = can_follow 0 addresses && fits_u64 (length addresses)

-- the addresses that a store holds, where a table's blocks can have them
abbrev pub opened : List ℕ → Option (List Address)
opened bytes = passing can_index (store_of bytes)

-- the addresses that metas and packed data tell
abbrev pub told : List ℕ → List ℕ → Option (List Address)
told metas packed = do
  found ← pieces front_of_metas metas
  _ ← provided (are_filled found.0)
  addresses ← each (addresses_of_meta packed) found.0
  Some (joined addresses)

-- those of an open store
abbrev pub addresses_in : List ℕ → List ℕ → List Address
addresses_in metas packed = unwrap_or (told metas packed) []

-- metas and packed data tell so many addresses, and a table's blocks can have them
pub record AreOpen (metas packed : List ℕ) (count : ℕ) : Type 0 where
  pub found : List Address
  pub is_told : told metas packed ≡ Some found
  pub follow : can_follow 0 found ≡ true
  pub counted : length found ≡ count

-- the positions of the blocks' first keys
abbrev pub ordinals_of : List Address → List ℕ
ordinals_of addresses = map (λ (a : Address). a.first_ordinal) addresses

-- the ordinal of the last of these addresses, or else the one before them
abbrev pub last_ordinal : ℕ → List Address → ℕ
last_ordinal ordinal [] = ordinal
last_ordinal ordinal (a ∷ others) = last_ordinal a.first_ordinal others

-- the last ordinal of a meta's blocks, where they can follow one with this ordinal
abbrev pub ordinal_after : Option (List Address) → ℕ → Option ℕ
ordinal_after found ordinal = do
  addresses ← passing (can_follow ordinal) found
  Some (last_ordinal ordinal addresses)

-- addresses are told, and can follow a block with this ordinal, where there is one
abbrev pub tells_then : Option ℕ → Option (List Address) → Bool
tells_then None found = false
tells_then (Some ordinal) found = is_some (passing (can_follow ordinal) found)

-- metas and packed data tell addresses that can follow a block with this ordinal
abbrev pub tells_after : ℕ → List ℕ → List ℕ → Bool
tells_after ordinal metas packed = tells_then (Some ordinal) (told metas packed)

-- the bits of a meta are such as can be read
pub record HasBits (m : Meta) : Type 0 where
  pub range_some : 1 ≤ m.range_bits
  pub range_few : m.range_bits ≤ 56
  pub ordinal_some : 1 ≤ m.ordinal_bits
  pub ordinal_few : m.ordinal_bits ≤ 56

-- the meta of group k
abbrev pub meta_of_group : ℕ → List ℕ → Option Meta
meta_of_group k metas = option_map (λ (found : Meta × List ℕ). found.0) (meta_at (drop (36 * k) metas))
