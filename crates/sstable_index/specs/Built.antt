-- What a builder shows by its fields. A reader of contracts may skip this file.
use Rattle.std.specs.Prelude.{◌≡◌, ℕ, ◌+◌, ◌-◌, List, [], ◌∷◌, length, map, take, drop, true}
use Rattle.std.specs.List.{flat_map, zip}
use Rattle.owned_bytes.specs.Keys.{Key}
use Rattle.sstable_blocks.specs.Writing.{keys_in}
use Rattle.sstable_format.specs.Index.{IndexEntry}
use Rattle.block_addresses.specs.Written.{addresses_between}
use Rattle.sstable_index.specs.Building.{adjoin, addresses_in, starts_of}

-- the keys of an area, by where each begins
unfoldable pub keys_at : List ℕ → List ℕ → List Key
keys_at [] area = []
keys_at (place ∷ []) area = area ∷ []
keys_at (place ∷ next ∷ places) area = take (next - place) area ∷ keys_at (next ∷ places) (drop (next - place) area)

-- where each of these keys begins, the first at a place
unfoldable pub places_from : ℕ → List Key → List ℕ
places_from place [] = []
places_from place (key ∷ keys) = place ∷ places_from (place + length key) keys

-- the entries that were added
abbrev pub built : List ℕ → List ℕ → List ℕ → List ℕ → List IndexEntry
built area places starts ordinals = zip (keys_at places area) (addresses_between starts ordinals)

-- The keys stand one after the other, and their blocks adjoin.
pub record IsBuilt (area places starts ordinals : List ℕ) (entries : List IndexEntry) : Type 0 where
  pub keys : area ≡ flat_map (λ key. key) (keys_in entries)
  pub begun : places ≡ places_from 0 (keys_in entries)
  pub ranges : starts ≡ starts_of (addresses_in entries)
  pub positions : ordinals ≡ map (λ address. address.first_ordinal) (addresses_in entries)
  pub adjoining : adjoin (addresses_in entries) ≡ true
