-- Laws of address stores and of shortened keys.
use Rattle.std.specs.Prelude.{◌≡◌, ℕ, ◌*◌, ◌^◌, ◌<◌, ◌≤◌, List, length, slice_index, Some, true, false}
use Rattle.owned_bytes.specs.Front.{each}
use Rattle.owned_bytes.specs.Keys.{Key, is_below}
use Rattle.sstable_values.specs.Codec.{Address}
use Rattle.sstable_format.specs.Meta.{Meta}
use Rattle.sstable_format.specs.Store.{store_of, are_filled, joined, addresses_of_meta}
use Rattle.block_addresses.specs.Written.{Blocks, AreStorable, addresses_of, all_packed, groups_of, store_bytes}
use Rattle.block_addresses.specs.Found.{element_at, address_in}
use Rattle.block_addresses.specs.Shortened.{shortened}

-- the numbers have 64 bits
abbrev pub HaveU64 : List ℕ → Type 0
HaveU64 numbers = (i : ℕ) → i < length numbers → slice_index numbers i < 2 ^ 64

-- What is written of blocks that adjoin tells their addresses.
abbrev pub StoresAreReadAgain : Type 0
StoresAreReadAgain =
    (blocks : Blocks) → AreStorable blocks → HaveU64 blocks.starts → HaveU64 blocks.ordinals
    → length (all_packed (groups_of blocks)) < 2 ^ 64 → 36 * length (groups_of blocks) < 2 ^ 64
    → store_of (store_bytes blocks) ≡ Some (addresses_of blocks)

-- An address is found in its meta alone.
abbrev pub AddressesAreFoundAlone : Type 0
AddressesAreFoundAlone =
    (packed : List ℕ) (metas : List Meta) (lists : List (List Address)) (i : ℕ)
    → are_filled metas ≡ true → each (addresses_of_meta packed) metas ≡ Some lists
    → element_at (joined lists) i ≡ address_in metas packed i

-- A shortened key isn't below the left key, is below the right one, and is no longer than the left one.
pub record IsBetween (left right key : Key) : Type 0 where
  pub reaches : is_below key left ≡ false
  pub stays_below : is_below key right ≡ true
  pub short : length key ≤ length left

abbrev pub ShortenedKeysStandBetween : Type 0
ShortenedKeysStandBetween =
    (left right : Key) → is_below left right ≡ true → IsBetween left right (shortened left right)
