-- How many expressions an expression holds, so that printing ends.
use Rattle.std.proofs.Common.{ℕ, ◌+◌}
use Rattle.printed_queries.specs.declared.expr.Expr.{Expr, Not', And', Or'}

abbrev pub expr_size : Expr → ℕ
expr_size (Not' _ inner) = expr_size inner + 2
expr_size (And' _ left _ right) = expr_size left + expr_size right + 2
expr_size (Or' _ left _ right) = expr_size left + expr_size right + 2
expr_size _ = 0
