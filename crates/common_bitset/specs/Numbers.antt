-- Finite sets of numbers, beyond the words of std's `FinSet`.
use Rattle.std.specs.Prelude.{◌≡◌, ℕ, zero, suc, ◌<◌, ◌&&◌, Bool, true, false, List, filter, Option, None, Some}
use Rattle.std.specs.List.{range_with_len}
use Rattle.std.specs.Ordering.{nat_cmp}
use Rattle.std.specs.FinSet.{FinSet, empty, insert, retain, contains, remove, is_subset}

abbrev pub Numbers : Type 0
Numbers = FinSet nat_cmp

-- the numbers below n
unfoldable pub below : ℕ → Numbers
below zero = empty
below (suc n) = insert (below n) n

-- the numbers below n that pass a test
unfoldable pub below_where : ℕ → (ℕ → Bool) → Numbers
below_where n passes = retain (below n) passes

-- each element is below n
abbrev pub IsBelow : ℕ → Numbers → Type 0
IsBelow n s = (e : ℕ) → contains s e ≡ true → e < n

-- the elements below n, rising
unfoldable pub rising : ℕ → Numbers → List ℕ
rising n s = filter (contains s) (range_with_len 0 n)

-- two sets have the same elements
abbrev pub same : Numbers → Numbers → Bool
same s t = is_subset s t && is_subset t s

-- m is the least element of s
pub record IsLeast (m : ℕ) (s : Numbers) : Type 0 where
  pub here : contains s m ≡ true
  pub none_before : (e : ℕ) → e < m → contains s e ≡ false

-- the set without this element, if there is one
abbrev pub without : Numbers → Option ℕ → Numbers
without s None = s
without s (Some e) = remove s e
