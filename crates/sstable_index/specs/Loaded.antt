-- What loaded indexes show by their fields. A reader of contracts may skip this file.
use Rattle.std.specs.Prelude.{◌≡◌, ℕ, ◌≤◌, List, [], ◌∷◌, length, drop, map, true, unwrap_or, Option, Some, None}
use Rattle.std.specs.List.{zip, flat_map}
use Rattle.owned_bytes.specs.Keys.{Key, is_rising}
use Rattle.sstable_values.specs.Codec.{Address}
use Rattle.sstable_format.specs.Index.{IndexEntry}
use Rattle.block_addresses.specs.Opened.{can_index}
use Rattle.sstable_index.specs.Built.{places_from}

-- the entries by a map of numbered keys and a store
abbrev pub entries_by : List (Key × ℕ) → List Address → List IndexEntry
entries_by numbered addresses = zip (map (λ entry. entry.0) numbered) addresses

-- There are as many keys as addresses, which a table's blocks can have.
pub record AreTied (keys : List Key) (addresses : List Address) : Type 0 where
  pub counted : length keys ≡ length addresses
  pub rising : is_rising keys ≡ true
  pub possible : can_index addresses ≡ true

-- The keys stand one after the other, and each begins at its place.
pub record AreKept (bytes starts : List ℕ) (keys : List Key) : Type 0 where
  pub joined : bytes ≡ flat_map (λ key. key) keys
  pub begun : starts ≡ places_from 0 keys

-- the last key
abbrev pub last_of : List Key → Option Key
last_of [] = None
last_of (key ∷ []) = Some key
last_of (key ∷ next ∷ keys) = last_of (next ∷ keys)

-- Whatever keys these starts are of, the last one begins at the place.
abbrev pub BeginsLast : List ℕ → ℕ → ℕ → Type 0
BeginsLast starts len place =
    (bytes : List ℕ) (keys : List Key) → AreKept bytes starts keys → length bytes ≡ len → (place ≤ len) × (drop place bytes ≡ unwrap_or (last_of keys) [])
