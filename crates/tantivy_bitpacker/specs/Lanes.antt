-- The places of the bits that are set in a mask.
use Rattle.std.specs.Prelude.{◌≡◌, ℕ, ◌+◌, ◌/◌, ◌%◌, ◌==◌, Bool, List, [], ◌∷◌, ◌++◌, length, take, drop, if◌then◌else◌}

-- The places, counted from `place`, of the tests that are true.
unfoldable pub set_places : ℕ → List Bool → List ℕ
set_places place [] = []
set_places place (test ∷ tests) = if test then place ∷ set_places (place + 1) tests else set_places (place + 1) tests

-- The lowest four bits of a number, the lowest first.
abbrev pub four_bits : ℕ → List Bool
four_bits n = (n % 2 == 1) ∷ (n / 2 % 2 == 1) ∷ (n / 4 % 2 == 1) ∷ (n / 8 % 2 == 1) ∷ []

-- The places of a number's lowest four bits stand in `new` from `kept` to `end`; before them and from `kept + 4` on it is as it was.
pub record PutsPlaces (bits place kept : ℕ) (old new : List ℕ) (end : ℕ) : Type 0 where
  pub front : take end new ≡ take kept old ++ set_places place (four_bits bits)
  pub count : end ≡ kept + length (set_places place (four_bits bits))
  pub rest : drop (kept + 4) new ≡ drop (kept + 4) old
