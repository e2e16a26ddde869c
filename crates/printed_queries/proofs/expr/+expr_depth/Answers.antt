use Rattle.std.proofs.Common.{rules, ◌≡◌, ◌∙◌, ap, sym, min}
use Rattle.query_tree.specs.Printing.{depth, depth_under_and}
use Rattle.printed_queries.specs.Expressions.{expression_of}
use Rattle.printed_queries.proofs.Depths.{both_capped}
use Rattle.printed_queries.proofs.expr.+expr_depth.Goals as goal

pub returns-in-And : goal.returns-in-And
unfolding depth
returns-in-And t c =
    let one : expression_of c.deref-in-And-2.result.now ≡ expression_of c.in-And.left.value = ap expression_of (search rules) in
    let two : expression_of c.deref-in-And.result.now ≡ expression_of c.in-And.left.value = ap expression_of (search rules) in
    let three : expression_of c.deref-in-And-4.result.now ≡ expression_of c.in-And.right.value = ap expression_of (search rules) in
    let four : expression_of c.deref-in-And-3.result.now ≡ expression_of c.in-And.right.value = ap expression_of (search rules) in
    both_capped (expression_of c.in-And.left.value) (expression_of c.in-And.right.value) _ _ _ _ _ 18446744073709551615
    (c.expr_depth-in-And.ensures ∙ ap (λ e. min (depth e) 18446744073709551615) one)
    (c.expr_depth-in-And-2.ensures ∙ ap (λ e. min (depth e) 18446744073709551615) three)
    (c.under_and-left_depth.ensures ∙ ap (λ e. min (depth_under_and e c.expr_depth-in-And.result) 18446744073709551615) two)
    (c.under_and.ensures ∙ ap (λ e. min (depth_under_and e c.expr_depth-in-And-2.result) 18446744073709551615) four)
    c.max.ensures
    ∙ ap (λ e. min (depth (expression_of e)) 18446744073709551615) (sym c.in-And.is)
