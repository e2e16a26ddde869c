-- The documents that were found.
use Rattle.std.specs.Prelude.{◌≡◌, ℕ, ◌^◌, ◌<◌, All}
use Rattle.std.specs.List.Sorted.{IsStrictlyIncreasing}
use Rattle.std.specs.FinSet.{from_list}
use Rattle.common_bitset.specs.Numbers.{Numbers}
use Rattle.common_bitset.specs.Subset.{IsProper}
use Rattle.document_sets.specs.declared.found.Found.{Found}
use Rattle.document_sets.specs.declared.found.Found.TheVariants.{Listed, Gathered}

-- their numbers
abbrev pub elements_found : Found → Numbers
elements_found (Listed numbers) = from_list numbers
elements_found (Gathered s) = s.elements

-- so many documents are a `u32`; the numbers of a list ascend below that number, and a set has that bound
abbrev pub AreFound : ℕ → Found → Type 0
AreFound documents (Listed numbers) = (documents < 2 ^ 32) × IsStrictlyIncreasing numbers × All (λ number. number < documents) numbers
AreFound documents (Gathered s) = (s.max_value ≡ documents) × IsProper s
