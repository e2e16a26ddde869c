-- A set in words: as many as its bound needs, nothing past it, and the number of its elements.
use Rattle.std.specs.Prelude.{◌≡◌, ℕ, ◌*◌, ◌^◌, ◌<◌, List, length}
use Rattle.std.specs.Int.{div_ceil}
use Rattle.std.specs.FinSet.{len}
use Rattle.common_bitset.specs.Numbers.{Numbers}
use Rattle.common_bitset.specs.Subset.{AreWords, gathered, word_at, stored_word}

pub record IsLaid (words : List Numbers) (count max : ℕ) : Type 0 where
  pub length_is : length words ≡ div_ceil max 64
  pub are_words : AreWords max (word_at words)
  pub count_is : count ≡ len (gathered max (word_at words))
  pub small : max < 2 ^ 32

-- words in bytes: as many as the bound needs, and nothing past it
pub record AreStored (bytes : List ℕ) (max : ℕ) : Type 0 where
  pub length_is : length bytes ≡ 8 * div_ceil max 64
  pub are_words : AreWords max (stored_word bytes)
  pub small : max < 2 ^ 32
