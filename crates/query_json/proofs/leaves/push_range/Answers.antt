use Rattle.std.proofs.lemmas.Result.{IfOk-weaker}
use Rattle.query_json.proofs.Shapes.{range_written}
use Rattle.query_json.proofs.leaves.push_range.Goals as goal

pub returns : goal.returns
returns c =
    IfOk-weaker c.push_str-3.result _ _
    (λ _ h. range_written c.args.field.now c.args.lower.now c.args.upper.now c.args.out.now c.push_field.new.out c.push_str.new.self c.push_bound.new.out c.push_str-2.new.self c.push_bound-2.new.out
    c.push_str-3.new.self c.in_ok-push_field.ensures c.in_ok-push_str.ensures.ok c.in_ok-push_bound.ensures c.in_ok-push_str-2.ensures.ok c.in_ok-push_bound-2.ensures h)
    c.push_str-3.ensures.ok
