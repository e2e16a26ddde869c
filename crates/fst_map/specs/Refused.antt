-- Why a map refuses.
use Rattle.std.specs.Prelude.{◌≡◌, List, ℕ, true, false}
use Rattle.owned_bytes.specs.Keys.{Key}
use Rattle.fst_map.specs.Map.{last_key, may_follow}
use Rattle.fst_map.specs.declared.map.MapError.{MapError}
use Rattle.fst_map.specs.declared.map.MapError.TheVariants.{Memory, Unsorted, Corrupt}

-- a key isn't inserted for want of memory, where it comes after the last one, or because it doesn't
abbrev pub RefusesKey : List (Key × ℕ) → Key → MapError → Type 0
RefusesKey entries key Memory = may_follow (last_key entries) key ≡ true
RefusesKey entries key Unsorted = may_follow (last_key entries) key ≡ false
RefusesKey entries key Corrupt = ⊥
