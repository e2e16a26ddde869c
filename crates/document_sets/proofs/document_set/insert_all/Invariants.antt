use Rattle.std.proofs.Common.{◌≡◌, take}
use Rattle.document_sets.specs.Members.{with_numbers}
use Rattle.document_sets.proofs.document_set.insert_all.Given as goal

abbrev pub invariant-loop-number : goal.invariant-loop-number
invariant-loop-number l = record {
  elements : l.bits.elements ≡ with_numbers l.initial.bits.elements (take l.number-index l.numbers);
  max_value : l.bits.max_value ≡ l.initial.bits.max_value;
}
