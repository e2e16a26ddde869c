-- The text so far and then the lines of the numbers that are left are the lines of all.
use Rattle.std.proofs.Common.{◌≡◌, ◌++◌, drop}
use Rattle.term_index.specs.Printing.{lines}
use Rattle.term_index.proofs.printing.lines_of.Given as goal

abbrev pub invariant-loop-number : goal.invariant-loop-number
invariant-loop-number l = l.text.items ++ lines (drop l.number-index l.numbers) ≡ lines l.numbers
