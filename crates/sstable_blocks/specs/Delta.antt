-- How a key is stored: what it keeps of the key before it, and what it adds.
use Rattle.std.specs.Prelude.{ℕ, ◌/◌, ◌%◌, List, [], ◌∷◌, Some, None, ◌==◌, if◌then◌else◌}
use Rattle.owned_bytes.specs.Front.{Reading, bytes_at}
use Rattle.owned_bytes.specs.Reader.{◌>>=◌, give}
use Rattle.sstable_values.specs.Vint.{vint_at}

-- how many bytes of the key before are kept, and the bytes that follow them
pub record Delta : Type 0 where
  pub keep : ℕ
  pub suffix : List ℕ

abbrev pub two_vints_at : Reading (ℕ × ℕ)
two_vints_at = do
  first ← vint_at
  second ← vint_at
  give (first, second)

-- the numbers of bytes that are kept and added: in one byte, or after a byte 1
abbrev pub keep_and_add_at : Reading (ℕ × ℕ)
keep_and_add_at [] = None
keep_and_add_at (b ∷ bytes) =
    if b == 1 then two_vints_at bytes else Some ((b % 16, b / 16), bytes)

unfoldable pub delta_at : Reading Delta
delta_at = do
  lens ← keep_and_add_at
  suffix ← bytes_at lens.1
  give (record { keep = lens.0; suffix = suffix })
