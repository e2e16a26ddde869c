use Rattle.std.proofs.Common.{◌≡◌, length}
use denote.Shadow.{shadow}
use denote.Text.{Utf8}
use Rattle.query_tree.specs.Decimals.{trimmed_back}
use Rattle.query_tree.proofs.decimal.without_zeros_behind.Given as goal

abbrev pub invariant-loop-shorter : goal.invariant-loop-shorter
invariant-loop-shorter l = (trimmed_back l.digits ≡ trimmed_back l.front) × shadow (Utf8 l.front)

abbrev pub decreases-loop-shorter : goal.decreases-loop-shorter
decreases-loop-shorter l = length l.front
