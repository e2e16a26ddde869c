use Rattle.std.proofs.Common.{◌≡◌, ℕ, ◌-◌, ◌^◌, ◌≤◌, ◌⊎◌}
use Rattle.tantivy_stacker.proofs.shared_arena_hashmap.table_len.Given as goal

abbrev pub invariant-loop-len : goal.invariant-loop-len
invariant-loop-len l = ((k : ℕ) × (l.len ≡ 2 ^ k) × (1 ≤ k)) × ((l.len ≤ l.size) ⊎ (l.len ≡ 2)) × (2 ≤ l.len)

abbrev pub decreases-loop-len : goal.decreases-loop-len
decreases-loop-len l = l.size - l.len
