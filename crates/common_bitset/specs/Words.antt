-- Sets of numbers below 64 as words of 64 bits: bit i is element i.
use Rattle.std.specs.Prelude.{ℕ, ◌^◌, ◌==◌, sum_by}
use Rattle.std.specs.Int.{bit_at}
use Rattle.common_bitset.specs.Numbers.{Numbers, below_where, rising}

-- the elements of a word
unfoldable pub elements_of : ℕ → Numbers
elements_of word = below_where 64 (λ i. bit_at word i == 1)

-- the word of a set
unfoldable pub word_of : Numbers → ℕ
word_of s = sum_by (λ i. 2 ^ i) (rising 64 s)
