-- Which tables are refused for what stands in them.
use Rattle.std.specs.Prelude.{ℕ, List, drop, Bool, is_some, nat_le, ◌&&◌, ◌==◌}
use Rattle.std.specs.Int.{w8, w32}
use Rattle.owned_bytes.specs.Front.{◌>>=◌, provided, number_at}

-- at the place stands a length above 1, and behind it a byte 1
abbrev pub is_compressed_at : ℕ → List ℕ → Bool
is_compressed_at place table = is_some do
  len ← number_at w32 (drop place table)
  compress ← number_at w8 len.1
  provided (nat_le 2 len.0 && (compress.0 == 1))
