use Rattle.std.proofs.Common.{◌≡◌, ◌++◌}
use Rattle.tantivy_bitpacker.specs.Within.{ids_within}
use Rattle.tantivy_bitpacker.proofs.plain.get_ids_for_value_range.Given as goal

abbrev pub invariant-loop-id : goal.invariant-loop-id
invariant-loop-id l = l.positions.items ++ ids_within l.low l.high l.id l.id-end l.unpacker l.bytes ≡ ids_within l.low l.high l.initial.id l.id-end l.unpacker l.bytes
