use Rattle.std.proofs.Common.{◌≡◌, ◌+◌, drop}
use Rattle.owned_bytes.specs.Keys.{shared}
use Rattle.sstable_blocks.specs.Comparing.{order}
use Rattle.sstable_blocks.proofs.comparator.compare_bytes.Given as goal

abbrev pub invariant-loop-i : goal.invariant-loop-i
invariant-loop-i l = record {
  common : l.i + shared (drop l.i l.left) (drop l.i l.right) ≡ shared l.left l.right;
  order : order (drop l.i l.left) (drop l.i l.right) ≡ order l.left l.right;
}
