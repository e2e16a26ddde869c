use Rattle.std.proofs.lemmas.Result.{IfOk-weaker}
use Rattle.query_json.proofs.Shapes.{literal_written}
use Rattle.query_json.proofs.leaves.push_literal.Goals as goal

pub returns : goal.returns
returns c =
    IfOk-weaker c.push_literal_end.result _ _
    (λ _ h. literal_written c.args.literal.now c.args.out.now c.as_str.result.now c.push_field.new.out c.push_named.new.out c.push_literal_end.new.out c.as_str.ensures c.in_ok-push_field.ensures
    c.in_ok-push_named.ensures h)
    c.push_literal_end.ensures
