use Rattle.std.proofs.Common.{◌+◌, ◌*◌}
use Rattle.printed_queries.proofs.Sizes.{expr_size}
use Rattle.printed_queries.proofs.print.+printing.Given as goal

abbrev pub decreases-push_expr : goal.decreases-push_expr
decreases-push_expr l = 3 * expr_size l.expr.now

abbrev pub decreases-push_enclosed : goal.decreases-push_enclosed
decreases-push_enclosed l = 3 * expr_size l.expr.now + 1

abbrev pub decreases-push_under_and : goal.decreases-push_under_and
decreases-push_under_and l = 3 * expr_size l.expr.now + 2

abbrev pub decreases-push_under_not : goal.decreases-push_under_not
decreases-push_under_not l = 3 * expr_size l.expr.now + 2

abbrev pub decreases-push_not : goal.decreases-push_not
decreases-push_not l = 3 * expr_size l.inner.now + 3

abbrev pub decreases-push_and : goal.decreases-push_and
decreases-push_and l = 3 * expr_size l.left.now + 3 * expr_size l.right.now + 3

abbrev pub decreases-push_or : goal.decreases-push_or
decreases-push_or l = 3 * expr_size l.left.now + 3 * expr_size l.right.now + 3
