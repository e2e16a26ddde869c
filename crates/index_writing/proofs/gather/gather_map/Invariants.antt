use Rattle.std.proofs.Common.{take}
use Rattle.index_writing.specs.Gathering.{Tells}
use Rattle.index_writing.proofs.gather.gather_map.Given as goal

abbrev pub invariant-loop-number : goal.invariant-loop-number
invariant-loop-number l = Tells l.gathered (take l.number l.docs)
