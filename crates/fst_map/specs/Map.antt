-- A map from keys to numbers: how many, an end and a value for each key, and the keys one after the other.
use Rattle.std.specs.Prelude.{ℕ, ◌-◌, List, [], ◌∷◌, length, map, slice_index_or, Bool, true, not, Option, Some, None, nat_le, ◌==◌}
use Rattle.std.specs.List.{position}
use Rattle.std.specs.Int.{w64}
use Rattle.owned_bytes.specs.Front.{Reading, ◌>>=◌, provided, number_at, bytes_at, counted}
use Rattle.owned_bytes.specs.Keys.{Key, is_below, is_rising}
use Rattle.owned_bytes.specs.Computes as bytes

-- where a key ends in the key area, and its value
abbrev pub end_and_value_at : Reading (ℕ × ℕ)
end_and_value_at bytes = do
  end ← number_at w64 bytes
  value ← number_at w64 end.1
  Some ((end.0, value.0), value.1)

-- the keys of the area from a place on, with their values; nothing follows the last one
unfoldable pub keys_from : ℕ → List (ℕ × ℕ) → List ℕ → Option (List (Key × ℕ))
keys_from start [] [] = Some []
keys_from start [] (b ∷ area) = None
keys_from start (one ∷ ends) area = do
  _ ← provided (nat_le start one.0)
  key ← bytes_at (one.0 - start) area
  others ← keys_from one.0 ends key.1
  Some ((key.0, one.1) ∷ others)

-- the keys and values of a map, all of the bytes
unfoldable pub map_of : List ℕ → Option (List (Key × ℕ))
map_of bytes = do
  count ← number_at w64 bytes
  ends ← counted count.0 end_and_value_at count.1
  entries ← keys_from 0 ends.0 ends.1
  _ ← provided (is_rising (map (λ entry. entry.0) entries))
  Some entries

-- the entries of keys that stand one after the other, by the ends and values that stand one after the other
unfoldable pub entries_in : ℕ → List ℕ → List ℕ → Option (List (Key × ℕ))
entries_in count ends area = do
  found ← counted count end_and_value_at ends
  _ ← provided (length found.1 == 0)
  keys_from 0 found.0 area

-- the key of the last entry
abbrev pub last_key : List (Key × ℕ) → Option Key
last_key [] = None
last_key (entry ∷ []) = Some entry.0
last_key (entry ∷ next ∷ entries) = last_key (next ∷ entries)

-- the key comes after the one before, where there is one
abbrev pub may_follow : Option Key → Key → Bool
may_follow None key = true
may_follow (Some before) key = is_below before key

-- the entry at a place; past the last one the empty key and 0
abbrev pub entry_at : List (Key × ℕ) → ℕ → Key × ℕ
entry_at entries place = slice_index_or entries place ([], 0)

-- the place of the first entry whose key is not below this one, where there is such an entry
abbrev pub first_at_or_above : Key → List (Key × ℕ) → Option ℕ
first_at_or_above key entries = position (λ entry. not (is_below entry.0 key)) entries

-- A line 'unfolding computes' lets the definitions of this crate compute.
unfoldable pub computes : Unit {0}
unfolding bytes.computes keys_from map_of entries_in
computes = tt
