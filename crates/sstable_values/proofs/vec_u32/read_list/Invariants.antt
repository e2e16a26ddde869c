use Rattle.std.proofs.Common.{◌+◌, ◌-◌, drop}
use Rattle.std.specs.Int.{w32}
use Rattle.owned_bytes.specs.Front.{number_at}
use Rattle.sstable_values.proofs.Counted.{CountedOn}
use Rattle.sstable_values.proofs.vec_u32.read_list.Given as goal

abbrev pub invariant-loop-i : goal.invariant-loop-i
invariant-loop-i l = CountedOn (number_at w32) l.count (drop (l.at + 4) l.content) (l.count - l._i) l.taken l.numbers.items l.content
