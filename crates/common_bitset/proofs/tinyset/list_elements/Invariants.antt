use Rattle.std.proofs.Common.{◌≡◌, ◌+◌, ◌≤◌, ◌++◌, length, take}
use Rattle.common_bitset.specs.Numbers.{rising}
use Rattle.common_bitset.proofs.tinyset.list_elements.Given as goal

abbrev pub invariant-loop-element : goal.invariant-loop-element
invariant-loop-element l = record {
  so_far : take l.count l.elements ++ l.element-iterator ≡ rising 64 l.fn.set;
  few : l.count + length l.element-iterator ≤ 64;
  long : length l.elements ≡ 64;
}
