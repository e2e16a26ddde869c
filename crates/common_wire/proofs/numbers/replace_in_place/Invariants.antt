use Rattle.std.proofs.Common.{◌≡◌, ◌++◌, take, drop}
use Rattle.common_wire.specs.Numbers.{replaced}
use Rattle.common_wire.proofs.numbers.replace_in_place.Given as goal

abbrev pub invariant-loop-b : goal.invariant-loop-b
invariant-loop-b l = l.bytes ≡ replaced l.needle l.replacement (take l.b-index l.initial.bytes) ++ drop l.b-index l.initial.bytes
