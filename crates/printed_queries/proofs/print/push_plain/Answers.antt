use Rattle.printed_queries.proofs.Pushed.{as_it_is}
use Rattle.printed_queries.proofs.print.push_plain.Goals as goal

pub returns : goal.returns
returns c = as_it_is _ _ c.args.text.now c.utf8.text c.in_ok-push_str.ensures.ok
