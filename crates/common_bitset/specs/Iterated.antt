-- The elements that an iterator over words has left.
use Rattle.std.specs.Prelude.{ℕ, ◌+◌, ◌-◌, ◌*◌, ◌^◌, ◌≤◌, List, ◌++◌, map, filter}
use Rattle.std.specs.List.{range_with_len}
use Rattle.common_bitset.specs.Numbers.{Numbers, rising}
use Rattle.common_bitset.specs.Subset.{is_in}

-- those of so many words, from word k on
unfoldable pub elements_from : (ℕ → Numbers) → ℕ → ℕ → List ℕ
elements_from word count k = filter (is_in word) (range_with_len (64 * k) (64 * (count - k)))

-- those of a word that begins at a number
unfoldable pub placed_at : ℕ → Numbers → List ℕ
placed_at base word = map (λ i. base + i) (rising 64 word)

-- of so many words those before `next` were taken, and of the last of them these elements are left
abbrev pub elements_left : (ℕ → Numbers) → ℕ → ℕ → Numbers → List ℕ
elements_left word count next current = placed_at (64 * (next - 1)) current ++ elements_from word count next

-- so many words were taken of so many, whose elements are `u32`
pub record IsPlaced (count next : ℕ) : Type 0 where
  pub few : count ≤ 2 ^ 26
  pub within : next ≤ count
