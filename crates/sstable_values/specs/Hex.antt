-- Bytes as two hexadecimal digits each, with blanks between them as one likes.
use Rattle.std.specs.Prelude.{ℕ, ◌+◌, ◌-◌, ◌*◌, List, [], ◌∷◌, filter, not, nat_lt, ◌==◌, if◌then◌else◌}

abbrev pub digit : ℕ → ℕ
digit c = if nat_lt c 58 then c - 48 else c - 87

abbrev pub pairs : List ℕ → List ℕ
pairs [] = []
pairs (a ∷ []) = []
pairs (a ∷ b ∷ cs) = (digit a * 16 + digit b) ∷ pairs cs

abbrev pub hex : List ℕ → List ℕ
hex text = pairs (filter (λ c. not (c == 32)) text)
