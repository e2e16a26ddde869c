-- The version of a table.
use Rattle.std.specs.Prelude.{ℕ, List, Bool, Option, Some, is_some, ◌||◌, ◌==◌, not}
use Rattle.std.specs.Int.{w32}
use Rattle.owned_bytes.specs.Front.{◌>>=◌, provided, number_at}
use Rattle.sstable_format.specs.Index.{at_end}

-- the number in a table's last four bytes
abbrev pub version_of : List ℕ → Option ℕ
version_of table = do
  ended ← at_end 4 (number_at w32) table
  Some ended.0

abbrev pub is_known : ℕ → Bool
is_known version = version == 2 || version == 3

-- the version is told, and known
abbrev pub has_known_version : List ℕ → Bool
has_known_version table = is_some (version_of table >>= (λ version. provided (is_known version)))

-- the version is told, and not known
abbrev pub has_unknown_version : List ℕ → Bool
has_unknown_version table = is_some (version_of table >>= (λ version. provided (not (is_known version))))
