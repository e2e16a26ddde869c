use Rattle.std.proofs.Common.{rules}
use Rattle.printed_queries.specs.Escapes.{is_escaped_in}
use Rattle.printed_queries.proofs.Pushed.{one_more, all_written}
use Rattle.printed_queries.proofs.print.push_escaped.Goals as goal

pub loop-c-preserved : goal.loop-c-preserved
loop-c-preserved c = (one_more (is_escaped_in c.args.place) _ _ _ _ _ c.in-Some.c c.loop-c.invariant.0 c.in-Some.ensures c.in_ok-push_character.ensures, search rules)

pub returns : goal.returns
returns c = all_written (is_escaped_in c.args.place) _ _ _ c.loop-c.invariant.0 (search rules)
