use Rattle.printed_queries.proofs.Pushed.{ascii_word}
use Rattle.printed_queries.proofs.print.push_word.Goals as goal

pub returns : goal.returns
returns c = ascii_word _ _ c.args.word.now c.requires c.in_ok-push_str.ensures.ok
