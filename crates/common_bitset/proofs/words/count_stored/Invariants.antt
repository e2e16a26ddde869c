use Rattle.std.proofs.Common.{◌≡◌, ◌≤◌, ◌*◌}
use Rattle.common_bitset.specs.Subset.{stored_word}
use Rattle.common_bitset.specs.Counts.{total}
use Rattle.common_bitset.proofs.words.count_stored.Given as goal

abbrev pub invariant-loop-k : goal.invariant-loop-k
invariant-loop-k l = record { counted : l.count ≡ total l.k (stored_word l.words); few : l.count ≤ 64 * l.k }
