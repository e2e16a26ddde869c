use Rattle.std.specs.Prelude.{codes}
use Rattle.std.specs.Str.{chars}
use Rattle.query_tree.specs.Printing.{printed, printed_field}
use Rattle.printed_queries.proofs.Pushed.{then_piece}
use Rattle.printed_queries.proofs.print.push_exists.Goals as goal

pub returns : goal.returns
unfolding printed
returns c = then_piece _ _ _ (printed_field (chars c.args.field.now)) (codes "*") c.in_ok-push_field.ensures c.in_ok-push_char.ensures
