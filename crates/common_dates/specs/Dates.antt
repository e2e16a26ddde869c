-- Dates in other units, and as bytes.
use Rattle.std.specs.Prelude.{ℕ, ℤ, pos, negsuc, ◌*ℤ◌, ◌^◌, int_div, List, Bool, nat_lt}
use Rattle.std.specs.Int.{w64, to_le_bytes, cast_unsigned}
use Rattle.common_wire.specs.Taking.{Taking, ◌>>=◌, give, only_if}
use Rattle.common_wire.specs.Wire.{signed}
use Rattle.common_dates.specs.declared.date_time.DateTimePrecision.{DateTimePrecision}
use Rattle.common_dates.specs.declared.date_time.DateTimePrecision.TheVariants.{Seconds, Milliseconds, Microseconds, Nanoseconds}

-- units, in nanoseconds
abbrev pub second : ℕ
second = 1000000000

abbrev pub millisecond : ℕ
millisecond = 1000000

abbrev pub microsecond : ℕ
microsecond = 1000

abbrev pub unit_of : DateTimePrecision → ℕ
unit_of Seconds = second
unit_of Milliseconds = millisecond
unit_of Microseconds = microsecond
unit_of Nanoseconds = 1

-- whole units, rounded toward zero
abbrev pub whole : ℕ → ℤ → ℤ
whole unit n = int_div n (pos unit)

-- without what is less than a unit
abbrev pub truncated : ℕ → ℤ → ℤ
truncated unit n = whole unit n *ℤ pos unit

-- the number fits an `i64`
abbrev pub fits_i64 : ℤ → Bool
fits_i64 (pos n) = nat_lt n (2 ^ 63)
fits_i64 (negsuc n) = nat_lt n (2 ^ 63)

-- the whole microseconds
abbrev pub date_bytes : ℤ → List ℕ
date_bytes n = to_le_bytes w64 (cast_unsigned w64 (whole microsecond n))

-- a number of microseconds whose nanoseconds fit an `i64`
unfoldable pub date : Taking ℤ
date = do
  n ← signed
  only_if (fits_i64 (n *ℤ pos microsecond)) (give (n *ℤ pos microsecond))
