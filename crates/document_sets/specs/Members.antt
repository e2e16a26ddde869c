-- What the members of a set of documents are.
use Rattle.std.specs.Prelude.{◌≡◌, ℕ, ◌^◌, ◌<◌, List}
use Rattle.std.specs.FinSet.{empty, union, from_list}
use Rattle.common_bitset.specs.Numbers.{Numbers, below, IsBelow}
use Rattle.document_sets.specs.declared.document_set.Members.{Members}
use Rattle.document_sets.specs.declared.document_set.Members.TheVariants.{Nothing, Everything, Listed}

-- those of so many documents that are members
abbrev pub elements_of : ℕ → Members → Numbers
elements_of documents Nothing = empty
elements_of documents Everything = below documents
elements_of documents (Listed bits) = bits.elements

-- so many documents are a `u32`, and listed members lie below that number
abbrev pub AreWithin : ℕ → Members → Type 0
AreWithin documents Nothing = documents < 2 ^ 32
AreWithin documents Everything = documents < 2 ^ 32
AreWithin documents (Listed bits) = (documents < 2 ^ 32) × (bits.max_value ≡ documents) × IsBelow documents bits.elements

-- the set with these numbers too
abbrev pub with_numbers : Numbers → List ℕ → Numbers
with_numbers s numbers = union s (from_list numbers)
