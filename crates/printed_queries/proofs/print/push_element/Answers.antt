use Rattle.std.specs.Prelude.{codes}
use Rattle.std.specs.Str.{chars}
use Rattle.query_tree.specs.Printing.{printed_text}
use Rattle.printed_queries.proofs.Pushed.{then_piece}
use Rattle.printed_queries.proofs.print.push_element.Goals as goal

pub returns : goal.returns
returns c = then_piece _ _ _ (codes " ") (printed_text (chars c.args.text.now)) c.in_ok-push_char.ensures c.in_ok-push_text.ensures
