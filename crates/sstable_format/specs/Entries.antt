-- The entries of a table by their keys.
use Rattle.std.specs.Prelude.{List, [], ◌∷◌, Option, Some, None, if◌then◌else◌}
use Rattle.owned_bytes.specs.Keys.{Key, is_same}

-- the value at a key
unfoldable pub value_at : {V : Type 0} → Key → List (Key × V) → Option V
value_at key [] = None
value_at key (entry ∷ entries) = if is_same key entry.0 then Some entry.1 else value_at key entries
