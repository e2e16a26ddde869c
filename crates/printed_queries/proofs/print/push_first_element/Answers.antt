use Rattle.std.specs.Prelude.{map}
use Rattle.std.specs.Str.{chars}
use Rattle.query_tree.specs.Printing.{printed_text, more_elements}
use Rattle.printed_queries.proofs.Pushed.{then_piece}
use Rattle.printed_queries.proofs.print.push_first_element.Goals as goal

pub returns : goal.returns
returns c = then_piece _ _ _ (printed_text (chars c.args.first.now)) (more_elements (map chars c.args.others.now)) c.in_ok-push_text.ensures c.in_ok-push_more_elements.ensures
