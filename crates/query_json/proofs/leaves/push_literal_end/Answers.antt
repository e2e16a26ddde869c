use Rattle.std.proofs.lemmas.Result.{IfOk-weaker}
use Rattle.query_json.proofs.Shapes.{end_written}
use Rattle.query_json.proofs.leaves.push_literal_end.Goals as goal

pub returns : goal.returns
returns c =
    IfOk-weaker c.push_str-6.result _ _
    (λ _ h. end_written c.args.literal.now c.args.out.now c.delimiter_word.result.now c.bool_word.result.now c.push_str.new.self c.push_str-2.new.self c.push_str-3.new.self c.push_number.new.out
    c.push_str-4.new.self c.push_str-5.new.self c.push_str-6.new.self c.delimiter_word.ensures c.bool_word.ensures c.in_ok-push_str.ensures.ok c.in_ok-push_str-2.ensures.ok c.in_ok-push_str-3.ensures.ok
    c.in_ok-push_number.ensures c.in_ok-push_str-4.ensures.ok c.in_ok-push_str-5.ensures.ok h)
    c.push_str-6.ensures.ok
