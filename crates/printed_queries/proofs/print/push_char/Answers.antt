use Rattle.printed_queries.proofs.Pushed.{one_character}
use Rattle.printed_queries.proofs.print.push_char.Goals as goal

pub returns : goal.returns
returns c = one_character _ _ c.args.c c.in_ok-push.ensures.ok
