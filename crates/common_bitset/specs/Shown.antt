-- The texts that `{:?}` writes.
use Rattle.std.specs.Prelude.{ℕ, List, ◌++◌, Option, Some, codes}
use Rattle.std.specs.Fmt.{debug_list, decimal}
use Rattle.std.specs.FinSet.{len}
use Rattle.common_bitset.specs.Numbers.{Numbers, rising}
use Rattle.common_bitset.specs.Subset.{Subset}

-- the elements in brackets, rising, a comma and a blank between two
abbrev pub tiny_set_text : Numbers → Option (List ℕ)
tiny_set_text s = debug_list (λ element. Some (decimal element)) (rising 64 s)

-- `BitSet { len: 2, max_value: 70 }`
abbrev pub counts_text : ℕ → ℕ → List ℕ
counts_text count max_value = codes "BitSet { len: " ++ decimal count ++ codes ", max_value: " ++ decimal max_value ++ codes " }"

-- the same with the number of the elements and the bound
abbrev pub bit_set_text : Subset → List ℕ
bit_set_text s = counts_text (len s.elements) s.max_value
