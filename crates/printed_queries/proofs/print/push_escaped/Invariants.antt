use Rattle.std.proofs.Common.{◌≡◌, ◌++◌, length}
use Rattle.std.specs.Str.{chars, IsUtf8}
use Rattle.printed_queries.specs.Escapes.{is_escaped_in}
use Rattle.printed_queries.proofs.Pushed.{written}
use Rattle.printed_queries.proofs.print.push_escaped.Given as goal

abbrev pub invariant-loop-c : goal.invariant-loop-c
invariant-loop-c l =
    (l.out ++ written (is_escaped_in l.place) (chars l.left) ≡ l.initial.out ++ written (is_escaped_in l.place) (chars l.text)) × IsUtf8 l.left

abbrev pub decreases-loop-c : goal.decreases-loop-c
decreases-loop-c l = length (chars l.left)
