use Rattle.std.proofs.Common.{ℕ, ◌<◌, ◌≤◌, get_or}
use Rattle.tantivy_bitpacker.proofs.blocked_bitpacker.extremes.Given as goal

abbrev pub invariant-loop-number : goal.invariant-loop-number
invariant-loop-number l = ((k : ℕ) → k < l.number-index → l.least ≤ get_or l.numbers k 0) × ((k : ℕ) → k < l.number-index → get_or l.numbers k 0 ≤ l.greatest)
