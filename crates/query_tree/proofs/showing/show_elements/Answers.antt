use Rattle.std.proofs.Common.{◌<◌, length, rules, arith}
use Rattle.std.specs.Fmt.{HasWritten}
use Rattle.std.proofs.Output.{has_written_append, has_written_of_eq}
use Rattle.query_tree.specs.Texts.{in_quotes, gap}
use Rattle.query_tree.proofs.Joining.{join_turn}
use Rattle.query_tree.proofs.showing.show_elements.Goals as goal

pub loop-shown-preserved : goal.loop-shown-preserved
loop-shown-preserved g c =
    λ p.
    let so_far = c.loop-shown.invariant p in
    let lt : c.loop-shown.shown < length c.args.elements.now = omega arith in
    let one : HasWritten g.W.Write.write_str_gives c.loop-shown.f (gap c.loop-shown.shown) c.show_blank.new.f = search rules in
    let two : HasWritten g.W.Write.write_str_gives c.show_blank.new.f (in_quotes c.index-elements-shown.result) c.write.new.self = search rules in
    has_written_of_eq _ _ _ _ _ (join_turn in_quotes c.args.elements.now c.loop-shown.shown c.index-elements-shown.result lt c.index-elements-shown.is)
    (has_written_append _ _ _ _ _ _ (has_written_append _ _ _ _ _ _ so_far one) two)
