use Rattle.std.proofs.Common.{◌++◌}
use Rattle.std.specs.Io.{StartsWith}
use Rattle.sstable_values.specs.Codec.{rising_numbers}
use Rattle.sstable_values.proofs.RisingLaws.{Writing}
use Rattle.sstable_values.proofs.value.write_rising.Given as goal

abbrev pub invariant-loop-number : goal.invariant-loop-number
invariant-loop-number l = Writing l.before l.number-index l.numbers l.output.items (l.fn.output.items ++ rising_numbers l.numbers) × StartsWith l.output.items l.fn.output.items
