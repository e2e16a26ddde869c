use Rattle.std.proofs.Common.{◌-◌, drop}
use Rattle.sstable_values.specs.Codec.{list_at, items_of}
use Rattle.sstable_values.proofs.Counted.{CountedOn}
use Rattle.sstable_values.proofs.vec_u32.read_lists.Given as goal

abbrev pub invariant-loop-i : goal.invariant-loop-i
invariant-loop-i l = CountedOn list_at l.count (drop 4 l.content) (l.count - l._i) l.taken (items_of l.vals.items) l.content
