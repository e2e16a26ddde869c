use Rattle.std.proofs.Common.{◌+◌, ◌*◌}
use Rattle.tantivy_bitpacker.specs.Within.{Filtering}
use Rattle.tantivy_bitpacker.proofs.filter_vec.filter_blocks.Given as goal

abbrev pub invariant-loop-block : goal.invariant-loop-block
invariant-loop-block l = Filtering l.low (l.low + l.span) l.offset l.initial.values l.values l.kept (l.block * 8)
