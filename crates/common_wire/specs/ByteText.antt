-- The text of a number of bytes, as people read it.
use Rattle.std.specs.Prelude.{ℕ, ◌+◌, ◌*◌, ◌/◌, ◌%◌, ◌^◌, List, ◌++◌, codes, nat_lt, if◌then◌else◌}
use Rattle.std.specs.Fmt.{decimal}

-- so many hundredths of the unit: the whole units, and what is left, rounded half up
abbrev pub hundredths : ℕ → ℕ → ℕ
hundredths n unit = n / unit * 100 + (n % unit * 100 + unit / 2) / unit

-- the number in the unit, with two decimals
abbrev pub in_unit : ℕ → ℕ → List ℕ → List ℕ
in_unit n unit name =
    decimal (hundredths n unit / 100) ++ codes "." ++ decimal (hundredths n unit / 10 % 10) ++ decimal (hundredths n unit % 10) ++ codes " " ++ name

-- the greatest unit that isn't above the number, from 1,000 on
abbrev pub unit_of : ℕ → ℕ
unit_of n = if nat_lt n (10 ^ 6) then 10 ^ 3 else (if nat_lt n (10 ^ 9) then 10 ^ 6 else (if nat_lt n (10 ^ 12) then 10 ^ 9 else (if nat_lt n (10 ^ 15) then 10 ^ 12 else 10 ^ 15)))

abbrev pub unit_name : ℕ → List ℕ
unit_name n = if nat_lt n (10 ^ 6) then codes "KB" else (if nat_lt n (10 ^ 9) then codes "MB" else (if nat_lt n (10 ^ 12) then codes "GB" else (if nat_lt n (10 ^ 15) then codes "TB" else codes "PB")))

unfoldable pub byte_text : ℕ → List ℕ
byte_text n = if nat_lt n 1000 then decimal n ++ codes " B" else in_unit n (unit_of n) (unit_name n)
