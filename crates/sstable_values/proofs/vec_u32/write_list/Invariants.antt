use Rattle.std.proofs.Common.{◌++◌}
use Rattle.std.specs.Int.{w32, to_le_bytes}
use Rattle.std.specs.Io.{StartsWith}
use Rattle.sstable_values.specs.Codec.{list}
use Rattle.sstable_values.proofs.Counted.{Spelling}
use Rattle.sstable_values.proofs.vec_u32.write_list.Given as goal

abbrev pub invariant-loop-number : goal.invariant-loop-number
invariant-loop-number l = Spelling (to_le_bytes w32) l.number-index l.numbers l.output.items (l.fn.output.items ++ list l.numbers) × StartsWith l.output.items l.fn.output.items
