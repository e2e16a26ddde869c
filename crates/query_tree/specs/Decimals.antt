-- Numbers in decimal, as their digits.
use Rattle.std.specs.Prelude.{◌≡◌, ℕ, ◌==◌, IsTrue, List, [], ◌∷◌, reverse, Option, Some, None, if◌then◌else◌}
use Rattle.std.specs.List.{list_all}
use Rattle.std.specs.Char.{is_ascii_digit}

-- the digits of the whole part, and those behind the dot
pub record Digits : Type 0 where
  pub whole : List ℕ
  pub fraction : List ℕ

abbrev pub AreDigits : List ℕ → Type 0
AreDigits digits = IsTrue (list_all is_ascii_digit digits)

abbrev pub trimmed_front : List ℕ → List ℕ
trimmed_front [] = []
trimmed_front (d ∷ ds) = if d == 48 then trimmed_front ds else d ∷ ds

abbrev pub at_least_zero : List ℕ → List ℕ
at_least_zero [] = 48 ∷ []
at_least_zero (d ∷ ds) = d ∷ ds

-- without zeros in front, but for a lone one
abbrev pub trimmed_whole : List ℕ → List ℕ
trimmed_whole digits = at_least_zero (trimmed_front digits)

-- without zeros behind
abbrev pub trimmed_back : List ℕ → List ℕ
trimmed_back digits = reverse (trimmed_front (reverse digits))

abbrev pub trimmed_fraction : Option (List ℕ) → List ℕ
trimmed_fraction None = []
trimmed_fraction (Some digits) = trimmed_back digits

-- without zeros in front of the whole part and behind the fraction
unfoldable pub trimmed_decimal : List ℕ → Option (List ℕ) → Digits
trimmed_decimal whole after_dot = record { whole = trimmed_whole whole; fraction = trimmed_fraction after_dot }

-- digits alone, of which trimming leaves all
pub record IsDecimal (whole fraction : List ℕ) : Type 0 where
  pub whole_digits : AreDigits whole
  pub fraction_digits : AreDigits fraction
  pub no_zero_in_front : trimmed_whole whole ≡ whole
  pub no_zero_behind : trimmed_back fraction ≡ fraction
