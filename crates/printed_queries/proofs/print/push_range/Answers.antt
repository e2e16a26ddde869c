use Rattle.std.specs.Prelude.{codes}
use Rattle.std.specs.Str.{chars}
use Rattle.query_tree.specs.Printing.{printed, printed_field, printed_lower, printed_upper}
use Rattle.printed_queries.specs.Expressions.{bound_of}
use Rattle.printed_queries.proofs.Pushed.{then_piece}
use Rattle.printed_queries.proofs.print.push_range.Goals as goal

pub returns : goal.returns
unfolding printed
returns c = then_piece _ _ _ (printed_field (chars c.args.field.now)) _ c.in_ok-push_field.ensures
    (then_piece _ _ _ (printed_lower (bound_of c.args.lower.now)) _ c.in_ok-push_lower.ensures
    (then_piece _ _ _ (codes " TO ") (printed_upper (bound_of c.args.upper.now)) c.in_ok-push_word.ensures c.in_ok-push_upper.ensures))
