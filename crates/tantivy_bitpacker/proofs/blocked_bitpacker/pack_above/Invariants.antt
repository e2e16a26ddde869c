use Rattle.std.proofs.Common.{◌-◌, map, take, Some, []}
use Rattle.tantivy_bitpacker.specs.Packed.{HasPacked, at_width}
use Rattle.tantivy_bitpacker.proofs.blocked_bitpacker.pack_above.Given as goal

abbrev pub invariant-loop-number : goal.invariant-loop-number
invariant-loop-number l = HasPacked (at_width l.num_bits (map (λ x. x - l.base_value) (take l.number-index l.numbers))) l.packer (Some []) (Some l.sink)
