use Rattle.std.proofs.lemmas.Result.{IfOk-weaker}
use Rattle.query_json.proofs.Shapes.{all_written}
use Rattle.query_json.proofs.leaves.push_leaf.Goals as goal

pub returns-in-All : goal.returns-in-All
returns-in-All c = IfOk-weaker c.push_str.result _ _ (λ _ h. all_written c.args.leaf.now c.args.out.now c.push_str.new.self c.in-All.is h) c.push_str.ensures.ok
