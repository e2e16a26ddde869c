use Rattle.std.proofs.Common.{◌≡◌, ◌+◌, drop}
use Rattle.owned_bytes.specs.Keys.{shared}
use Rattle.sstable_index.proofs.key_buffer.common_prefix_len.Given as goal

abbrev pub invariant-loop-i : goal.invariant-loop-i
invariant-loop-i l = l.i + shared (drop l.i l.left) (drop l.i l.right) ≡ shared l.left l.right
