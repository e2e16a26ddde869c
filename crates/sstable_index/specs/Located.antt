-- Which block of an index is looked for.
use Rattle.std.specs.Prelude.{◌≡◌, ℕ, ◌<◌, ◌≤◌, List, length, slice_index, not, Option, option_and_then}
use Rattle.std.specs.List.{position}
use Rattle.owned_bytes.specs.Keys.{Key, is_below}
use Rattle.sstable_values.specs.Codec.{Address}
use Rattle.sstable_format.specs.Index.{IndexEntry}
use Rattle.block_addresses.specs.Found.{element_at}
use Rattle.block_addresses.specs.Opened.{ordinals_of}
use Rattle.sstable_index.specs.Building.{addresses_in}

-- the number of the first block whose index key isn't below the key
abbrev pub number_with_key : Key → List IndexEntry → Option ℕ
number_with_key key entries = position (λ entry. not (is_below entry.0 key)) entries

-- where that block stands
abbrev pub block_with_key : Key → List IndexEntry → Option Address
block_with_key key entries = option_and_then (element_at (addresses_in entries)) (number_with_key key entries)

-- The number of the last block whose first key isn't behind the position, or else 0.
pub record IsLocated (ord : ℕ) (addresses : List Address) (number : ℕ) : Type 0 where
  pub within : 0 < length addresses → number < length addresses
  pub at_most : 0 < number → slice_index (ordinals_of addresses) number ≤ ord
  pub last : (i : ℕ) → number < i → i < length addresses → ord < slice_index (ordinals_of addresses) i
  pub none : length addresses ≡ 0 → number ≡ 0

-- where that block stands, if there is one
abbrev pub IsLocatedBlock : ℕ → List Address → Option Address → Type 0
IsLocatedBlock ord addresses found = (number : ℕ) × IsLocated ord addresses number × (found ≡ element_at addresses number)
