-- The expression that a value of the code is: its texts as characters.
use Rattle.std.specs.Prelude.{map}
use Rattle.std.specs.Str.{chars}
use Rattle.query_tree.specs.Printing as printing
use Rattle.printed_queries.specs.declared.expr.Bound.{Bound}
use Rattle.printed_queries.specs.declared.expr.Bound.TheVariants.{Inclusive, Exclusive, Unbounded}
use Rattle.printed_queries.specs.declared.expr.Expr.{Expr, Term, Prefix, Range, Set, Exists, Not', And', Or'}

abbrev pub bound_of : Bound → printing.Bound
bound_of (Inclusive text) = printing.Inclusive (chars text)
bound_of (Exclusive text) = printing.Exclusive (chars text)
bound_of Unbounded = printing.Unbounded

abbrev pub expression_of : Expr → printing.Expression
expression_of (Term field text) = printing.Term (chars field) (chars text)
expression_of (Prefix field text) = printing.Prefix (chars field) (chars text)
expression_of (Range field lower upper) = printing.Range (chars field) (bound_of lower) (bound_of upper)
expression_of (Set field texts) = printing.Set (chars field) (map chars texts)
expression_of (Exists field) = printing.Exists (chars field)
expression_of (Not' _ inner) = printing.Not (expression_of inner)
expression_of (And' _ left _ right) = printing.And (expression_of left) (expression_of right)
expression_of (Or' _ left _ right) = printing.Or (expression_of left) (expression_of right)
