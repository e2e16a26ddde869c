use Rattle.std.proofs.lemmas.Result.{IfOk-weaker}
use Rattle.query_json.proofs.Shapes.{exists_written}
use Rattle.query_json.proofs.leaves.push_exists.Goals as goal

pub returns : goal.returns
returns c =
    IfOk-weaker c.push_str.result _ _
    (λ _ h. exists_written c.args.field.now c.as_str.result.now c.args.out.now c.push_named.new.out c.push_str.new.self c.as_str.ensures c.in_ok-push_named.ensures h)
    c.push_str.ensures.ok
