use Rattle.std.proofs.Common.{rules}
use Rattle.std.specs.Char.{is_ascii_digit}
use Rattle.printed_queries.proofs.Digits.{goes_on, stops, ends}
use Rattle.printed_queries.proofs.plain.without_digits.Goals as goal

pub returns-then-not-is_ascii_digit : goal.returns-then-not-is_ascii_digit
returns-then-not-is_ascii_digit c = stops is_ascii_digit _ _ _ c.in-Some.first c.loop-first.invariant.0 c.in-Some.ensures (search rules)

pub loop-first-preserved : goal.loop-first-preserved
loop-first-preserved c = (goes_on is_ascii_digit _ _ _ c.in-Some.first c.loop-first.invariant.0 c.in-Some.ensures (search rules), search rules)

pub returns : goal.returns
returns c = ends is_ascii_digit _ _ c.loop-first.invariant.0 (search rules)
