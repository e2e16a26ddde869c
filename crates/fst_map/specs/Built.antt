-- What a builder keeps of the keys that it was given.
use Rattle.std.specs.Prelude.{◌≡◌, ℕ, ◌*◌, ◌≤◌, List, [], drop, length, map, true, Some, None, is_some, unwrap_or, ◌==◌, if◌then◌else◌}
use Rattle.owned_bytes.specs.Keys.{Key, is_rising}
use Rattle.fst_map.specs.Map.{last_key}
unfoldable use Rattle.fst_map.specs.Map.{entries_in}

-- the entries that were inserted
abbrev pub built : ℕ → List ℕ → List ℕ → List (Key × ℕ)
built len table keys = unwrap_or (entries_in len table keys) []

-- an end and a value for each key, and the keys, the last of which begins at last_start
pub record IsBuilt (len last_start : ℕ) (table keys : List ℕ) : Type 0 where
  pub found : is_some (entries_in len table keys) ≡ true
  pub full : length table ≡ 16 * len
  pub rising : is_rising (map (λ entry. entry.0) (built len table keys)) ≡ true
  pub begun : last_start ≤ length keys
  pub last : last_key (built len table keys) ≡ (if len == 0 then None else Some (drop last_start keys))
