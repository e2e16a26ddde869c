-- Where the parts of a map stand in its bytes: what the code of `Fst` reads.
use Rattle.std.specs.Prelude.{◌≡◌, ℕ, ◌+◌, ◌-◌, ◌*◌, ◌≤◌, List, [], length, take, drop, true, is_some, unwrap_or, ◌==◌, if◌then◌else◌}
use Rattle.std.specs.Int.{w64, from_le_bytes}
use Rattle.owned_bytes.specs.Keys.{Key}
unfoldable use Rattle.fst_map.specs.Map.{map_of}

-- the number that stands at a place
abbrev pub number_in : List ℕ → ℕ → ℕ
number_in bytes place = from_le_bytes w64 (take 8 (drop place bytes))

-- where a key ends in the key area
abbrev pub end_in : List ℕ → ℕ → ℕ
end_in bytes i = number_in bytes (8 + 16 * i)

-- where it begins: the first at 0, each other where the one before ends
abbrev pub start_in : List ℕ → ℕ → ℕ
start_in bytes i = if i == 0 then 0 else end_in bytes (i - 1)

-- its value
abbrev pub value_in : List ℕ → ℕ → ℕ
value_in bytes i = number_in bytes (16 + 16 * i)

-- the key area, after so many ends and values
abbrev pub area_in : ℕ → List ℕ → List ℕ
area_in len bytes = drop (8 + 16 * len) bytes

-- the bytes say how many keys there are, and have an end and a value for each
pub record HasTable (len : ℕ) (bytes : List ℕ) : Type 0 where
  pub count : number_in bytes 0 ≡ len
  pub fits : 8 + 16 * len ≤ length bytes

-- the bytes are a map of so many keys
pub record IsMap (len : ℕ) (bytes : List ℕ) : Type 0 where
  pub table : HasTable len bytes
  pub found : is_some (map_of bytes) ≡ true

-- its entries
abbrev pub entries_of : List ℕ → List (Key × ℕ)
entries_of bytes = unwrap_or (map_of bytes) []
