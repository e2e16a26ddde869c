use Rattle.std.proofs.Common.{ℕ, List, ◌≤◌}
use Rattle.tantivy_bitpacker.specs.Within.{Filtering}
use Rattle.tantivy_bitpacker.proofs.filter_vec.filter_rest.Given as goal

abbrev pub invariant-loop-i : goal.invariant-loop-i
invariant-loop-i l = (l.kept ≤ l.i) × ((xs : List ℕ) → Filtering l.low l.high l.offset xs l.initial.values l.initial.kept l.fn.from → Filtering l.low l.high l.offset xs l.values l.kept l.i)
