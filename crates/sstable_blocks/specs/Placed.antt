-- Entries with their positions in a table.
use Rattle.std.specs.Prelude.{ℕ, ◌+◌, ◌^◌, List, [], ◌∷◌, nat_lt, Option, Some}
use Rattle.owned_bytes.specs.Front.{◌>>=◌, provided}
use Rattle.owned_bytes.specs.Keys.{Key}

-- an entry with its position in the table
abbrev pub Placed : Type 0 → Type 0
Placed V = ℕ × (Key × V)

-- the entries with their positions, from the first one's on; none where a position needs more than 64 bits
unfoldable pub placed_from : {V : Type 0} → ℕ → List (Key × V) → Option (List (Placed V))
placed_from first [] = Some []
placed_from first (entry ∷ entries) = do
  _ ← provided (nat_lt first (2 ^ 64))
  others ← placed_from (first + 1) entries
  Some ((first, entry) ∷ others)
