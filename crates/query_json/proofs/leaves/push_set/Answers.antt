use Rattle.std.proofs.lemmas.Result.{IfOk-weaker}
use Rattle.query_json.proofs.Shapes.{set_written}
use Rattle.query_json.proofs.leaves.push_set.Goals as goal

pub returns : goal.returns
returns c =
    IfOk-weaker c.push_str-2.result _ _
    (λ _ h. set_written c.args.field.now c.args.elements.now c.args.out.now c.push_field.new.out c.push_str.new.self c.push_elements.new.out c.push_str-2.new.self c.in_ok-push_field.ensures
    c.in_ok-push_str.ensures.ok c.in_ok-push_elements.ensures h)
    c.push_str-2.ensures.ok
