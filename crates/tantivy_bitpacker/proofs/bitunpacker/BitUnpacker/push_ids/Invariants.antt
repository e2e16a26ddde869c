use Rattle.std.proofs.Common.{◌≡◌, ◌+◌, ◌-◌, ◌++◌}
use Rattle.tantivy_bitpacker.specs.Within.{ids_within}
use Rattle.tantivy_bitpacker.proofs.bitunpacker.BitUnpacker.push_ids.Given as goal

abbrev pub invariant-loop-first : goal.invariant-loop-first
invariant-loop-first l = (l.positions.items ++ ids_within l.low (l.low + l.span) l.first l.id_range.end l.self l.bytes ≡ l.initial.positions.items ++ ids_within l.low (l.low + l.span) l.id_range.start l.id_range.end l.self l.bytes)

abbrev pub decreases-loop-first : goal.decreases-loop-first
decreases-loop-first l = l.id_range.end - l.first
