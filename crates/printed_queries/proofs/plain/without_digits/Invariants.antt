use Rattle.std.proofs.Common.{◌≡◌, length}
use Rattle.std.specs.Str.{chars, IsUtf8}
use Rattle.std.specs.Char.{is_ascii_digit}
use Rattle.query_tree.specs.Reader.{skip}
use Rattle.printed_queries.proofs.plain.without_digits.Given as goal

abbrev pub invariant-loop-first : goal.invariant-loop-first
invariant-loop-first l = (skip is_ascii_digit (chars l.text) ≡ skip is_ascii_digit (chars l.left)) × IsUtf8 l.left

abbrev pub decreases-loop-first : goal.decreases-loop-first
decreases-loop-first l = length (chars l.left)
