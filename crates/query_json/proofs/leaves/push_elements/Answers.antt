use Rattle.std.proofs.Common.{◌<◌, length, arith}
use Rattle.query_json.proofs.Shapes.{element_turn}
use Rattle.query_json.proofs.leaves.push_elements.Goals as goal

pub loop-written-preserved : goal.loop-written-preserved
loop-written-preserved c =
    let lt : c.loop-written.written < length c.args.elements.now = omega arith in
    element_turn c.args.elements.now c.loop-written.written c.index-elements-written.result c.as_str.result.now c.args.out.now c.loop-written.out c.push_comma.new.out c.push_quoted.new.out lt
    c.index-elements-written.is c.as_str.ensures c.loop-written.invariant c.in_ok-push_comma.ensures c.in_ok-push_quoted.ensures
