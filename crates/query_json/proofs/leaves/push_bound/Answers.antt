use Rattle.std.proofs.Common.{◌∙◌, sym, ap, ◌++◌}
use Rattle.std.proofs.lemmas.Result.{IfOk-weaker}
use Rattle.query_tree.specs.Json.{bound_json}
use Rattle.query_json.proofs.Shapes.{inclusive_shape, unbounded_shape}
use Rattle.query_json.proofs.leaves.push_bound.Goals as goal

pub returns-in-Inclusive : goal.returns-in-Inclusive
returns-in-Inclusive c =
    IfOk-weaker c.push_value.result _ _ (λ _ h. h ∙ inclusive_shape c.args.out.now _ ∙ ap (λ b. c.args.out.now ++ bound_json b) (sym c.in-Inclusive.is)) c.push_value.ensures

pub returns-in-Unbounded : goal.returns-in-Unbounded
returns-in-Unbounded c =
    IfOk-weaker c.push_str.result _ _ (λ _ h. h ∙ ap (λ x. c.args.out.now ++ x) unbounded_shape ∙ ap (λ b. c.args.out.now ++ bound_json b) (sym c.in-Unbounded.is)) c.push_str.ensures.ok
