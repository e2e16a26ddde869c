use Rattle.std.specs.Prelude.{codes, map}
use Rattle.std.specs.Str.{chars}
use Rattle.query_tree.specs.Printing.{printed, printed_field, printed_elements}
use Rattle.printed_queries.proofs.Pushed.{then_piece}
use Rattle.printed_queries.proofs.print.push_set.Goals as goal

pub returns : goal.returns
unfolding printed
returns c = then_piece _ _ _ (printed_field (chars c.args.field.now)) _ c.in_ok-push_field.ensures
    (then_piece _ _ _ (codes "IN [") _ c.in_ok-push_word.ensures
    (then_piece _ _ _ (printed_elements (map chars c.args.texts.now)) (codes "]") c.in_ok-push_elements.ensures c.in_ok-push_char.ensures))
