use Rattle.std.proofs.Common.{◌≡◌, ◌<◌, length, true, false}
use Rattle.sstable_index.specs.ReadingV2.{with_keys_left}
use Rattle.sstable_index.proofs.run_v2.push_keys.Given as goal

abbrev pub invariant-deltas : goal.invariant-deltas
invariant-deltas l = record {
  some : 0 < length l.keys;
  left : with_keys_left true l.fn.keys l.deltas ≡ with_keys_left false l.keys l.rest;
}

abbrev pub decreases-deltas : goal.decreases-deltas
decreases-deltas l = length l.rest
