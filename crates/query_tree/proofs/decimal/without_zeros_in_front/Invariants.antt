use Rattle.std.proofs.Common.{◌≡◌, length}
use denote.Shadow.{shadow}
use denote.Text.{Utf8}
use Rattle.query_tree.specs.Decimals.{trimmed_front}
use Rattle.query_tree.proofs.decimal.without_zeros_in_front.Given as goal

abbrev pub invariant-loop-shorter : goal.invariant-loop-shorter
invariant-loop-shorter l = (trimmed_front l.digits ≡ trimmed_front l.rest) × shadow (Utf8 l.rest)

abbrev pub decreases-loop-shorter : goal.decreases-loop-shorter
decreases-loop-shorter l = length l.rest
