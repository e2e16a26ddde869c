use Rattle.std.proofs.Common.{◌≡◌, ◌++◌}
use Rattle.common_bitset.specs.Numbers.{rising}
use Rattle.document_sets.proofs.document_set.elements_of.Given as goal

abbrev pub invariant-loop-element : goal.invariant-loop-element
invariant-loop-element l = l.ids ++ l.element-iterator ≡ rising l.bits.max_value l.bits.elements
