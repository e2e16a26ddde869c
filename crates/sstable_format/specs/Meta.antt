-- What an address store says of up to 128 blocks.
use Rattle.std.specs.Prelude.{ℕ, ◌+◌}
use Rattle.std.specs.Int.{w8, w16, w32, w64}
use Rattle.owned_bytes.specs.Front.{Reading, number_at}
use Rattle.owned_bytes.specs.Reader.{◌>>=◌, give}

pub record Meta : Type 0 where
  pub data_offset : ℕ
  pub range_start : ℕ
  pub first_ordinal : ℕ
  pub range_slope : ℕ
  pub ordinal_slope : ℕ
  pub ordinal_bits : ℕ
  pub range_bits : ℕ
  pub block_count : ℕ

unfoldable pub meta_at : Reading Meta
meta_at = do
  data_offset ← number_at w64
  range_start ← number_at w64
  first_ordinal ← number_at w64
  range_slope ← number_at w32
  ordinal_slope ← number_at w32
  ordinal_bits ← number_at w8
  range_bits ← number_at w8
  last_block ← number_at w16
  give (record {
    data_offset = data_offset;
    range_start = range_start;
    first_ordinal = first_ordinal;
    range_slope = range_slope;
    ordinal_slope = ordinal_slope;
    ordinal_bits = ordinal_bits;
    range_bits = range_bits;
    block_count = last_block + 1;
  })
