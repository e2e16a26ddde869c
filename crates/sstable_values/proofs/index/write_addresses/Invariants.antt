use Rattle.std.proofs.Common.{◌++◌}
use Rattle.std.specs.Io.{StartsWith}
use Rattle.sstable_values.specs.Values.{Listed}
use Rattle.sstable_values.specs.Codec.{index}
use Rattle.sstable_values.proofs.IndexLaws.{WritingBlocks}
use Rattle.sstable_values.proofs.index.write_addresses.Given as goal

abbrev pub invariant-loop-block : goal.invariant-loop-block
invariant-loop-block l = WritingBlocks l.before l.block-index l.blocks l.output.items (l.fn.output.items ++ index.spelled (Listed l.blocks)) × StartsWith l.output.items l.fn.output.items
