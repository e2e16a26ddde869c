use Rattle.std.proofs.Common.{take}
use Rattle.index_writing.specs.Emitting.{PacksAll}
use Rattle.index_writing.proofs.numbers.pack_list.Given as goal

abbrev pub invariant-loop-number : goal.invariant-loop-number
invariant-loop-number l = PacksAll l.width (take l.number-index l.numbers) l.initial.packer l.packer l.initial.sink l.sink
