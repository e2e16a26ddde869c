use Rattle.std.specs.Prelude.{codes, ◌++◌}
use Rattle.query_tree.specs.Printing.{printed, under_and, under_not}
use Rattle.printed_queries.specs.Expressions.{expression_of}
use Rattle.printed_queries.proofs.Pushed.{then_piece}
use Rattle.printed_queries.proofs.print.+printing.Goals as goal

pub push_not-returns : goal.push_not-returns
unfolding printed
push_not-returns n c =
    let inner = expression_of c.args.inner.now in
    then_piece _ _ _ (codes "NOT ") (under_not inner (printed inner)) c.in_ok-push_word.ensures c.in_ok-push_under_not.ensures

pub push_and-returns : goal.push_and-returns
unfolding printed
push_and-returns n c =
    let left = expression_of c.args.left.now in
    let right = expression_of c.args.right.now in
    then_piece _ _ _ (under_and left (printed left)) _ c.in_ok-push_under_and.ensures
    (then_piece _ _ _ (codes " AND ") (under_and right (printed right)) c.in_ok-push_word.ensures c.in_ok-push_under_and-2.ensures)

pub push_or-returns : goal.push_or-returns
unfolding printed
push_or-returns n c =
    let left = expression_of c.args.left.now in
    let right = expression_of c.args.right.now in
    then_piece _ _ _ (printed left) _ c.in_ok-push_expr.ensures
    (then_piece _ _ _ (codes " OR ") (printed right) c.in_ok-push_word.ensures c.in_ok-push_expr-2.ensures)

pub push_enclosed-returns : goal.push_enclosed-returns
push_enclosed-returns n c =
    let e = expression_of c.args.expr.now in
    then_piece _ _ _ (codes "(" ++ printed e) (codes ")")
    (then_piece _ _ _ (codes "(") (printed e) c.in_ok-push_char.ensures c.in_ok-push_expr.ensures) c.in_ok-push_char-2.ensures
