-- What an iterator over blocks of packed numbers has left.
use Rattle.std.specs.Prelude.{ℕ, List, drop}
use Rattle.tantivy_bitpacker.specs.declared.blocked_bitpacker.BlockedIter.{BlockedIter}

abbrev pub blocked_rest : BlockedIter → List ℕ
blocked_rest it = drop it.next it.packer.now
