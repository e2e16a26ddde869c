-- How many elements there are in the first words.
use Rattle.std.specs.Prelude.{ℕ, zero, suc, ◌+◌}
use Rattle.std.specs.FinSet.{len}
use Rattle.common_bitset.specs.Numbers.{Numbers}

abbrev pub total : ℕ → (ℕ → Numbers) → ℕ
total zero word = 0
total (suc n) word = total n word + len (word n)
