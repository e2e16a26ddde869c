-- How long the list of a set's elements is.
use Rattle.std.proofs.Common.{ℕ, ◌≤◌, length, not, refl, arith}
use Rattle.std.specs.List.{range_with_len}
use Rattle.std.specs.FinSet.{contains}
use Rattle.std.proofs.lemmas.List.Filters.{length-filter_both}
use Rattle.std.proofs.lemmas.List.FromFn.{length-range_with_len}
use Rattle.common_bitset.specs.Numbers.{Numbers, rising}

pub few_rising : (n : ℕ) (s : Numbers) → length (rising n s) ≤ n
unfolding rising
few_rising n s = omega (arith, length-filter_both (contains s) (λ i. not (contains s i)) (λ i. refl) (range_with_len 0 n), length-range_with_len 0 n)
