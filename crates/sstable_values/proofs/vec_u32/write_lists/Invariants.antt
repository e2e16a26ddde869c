use Rattle.std.proofs.Common.{◌++◌, take, All}
use Rattle.std.specs.Io.{StartsWith}
use Rattle.sstable_values.specs.Values.{Listed}
use Rattle.sstable_values.specs.Reads.{ReadsAgain}
use Rattle.sstable_values.specs.Codec.{vec_u32, list, list_at, items_of}
use Rattle.sstable_values.proofs.Counted.{Spelling}
use Rattle.sstable_values.proofs.vec_u32.write_lists.Given as goal

abbrev pub invariant-loop-numbers : goal.invariant-loop-numbers
invariant-loop-numbers l =
    Spelling list l.numbers-index (items_of l.lists) l.output.items (l.fn.output.items ++ vec_u32.spelled (Listed (items_of l.lists)))
    × All (λ numbers. ReadsAgain list_at (list numbers) numbers) (take l.numbers-index (items_of l.lists))
    × StartsWith l.output.items l.fn.output.items
