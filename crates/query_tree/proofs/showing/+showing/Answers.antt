use Rattle.std.proofs.Common.{◌∙◌, sym, ap, ◌<◌, ◌++◌, length, map, rules, arith}
use Rattle.std.specs.Prelude.{codes}
use Rattle.std.specs.List.{join_with_byte}
use Rattle.std.specs.Fmt.{HasWritten}
use Rattle.std.proofs.Output.{has_written_append, has_written_of_eq}
use Rattle.query_tree.specs.declared.tree.UserInputAst.TheVariants.{Clause}
use Rattle.query_tree.specs.Texts.{debug_text, leaf_text, decimal_text, mark_text, whole_pair, gap}
use Rattle.query_tree.proofs.Joining.{join_turn}
use Rattle.query_tree.proofs.Shown.{empty_shown, not_empty, clause_shown, boost_shown, leaf_shown}
use Rattle.query_tree.proofs.showing.+showing.Goals as goal

pub UserInputAstDebug::fmt-returns-then-is_empty : goal.UserInputAstDebug::fmt-returns-then-is_empty
UserInputAstDebug::fmt-returns-then-is_empty g t c = record {
  writes = λ p ok.
      let one : HasWritten g.W.Write.write_str_gives c.args.f.now (codes "<emptyclause>") c.write_str.new.self = search rules in
      has_written_of_eq _ _ _ _ _ (empty_shown c.args.self.now c.in-Clause.pairs c.in-Clause.is (c.is_empty.ensures.0 c.if-is_empty.true)) one;
}

pub UserInputAstDebug::fmt-returns-in_ok-show_pairs-in-Clause : goal.UserInputAstDebug::fmt-returns-in_ok-show_pairs-in-Clause
UserInputAstDebug::fmt-returns-in_ok-show_pairs-in-Clause g t c = record {
  writes = λ p ok.
      let one : HasWritten g.W.Write.write_str_gives c.args.f.now (codes "(") c.write_str-in-Clause.new.self = search rules in
      let two : HasWritten g.W.Write.write_str_gives c.write_str-in-Clause.new.self (join_with_byte 32 (map whole_pair c.as_slice.result.now)) c.show_pairs.new.f = search rules in
      let three : HasWritten g.W.Write.write_str_gives c.show_pairs.new.f (codes ")") c.write_str-in-Clause-2.new.self = search rules in
      has_written_of_eq _ _ _ _ _ (clause_shown c.args.self.now c.as_slice.result.now (c.in-Clause.is ∙ ap Clause (sym c.as_slice.ensures)) (not_empty c.in-Clause.pairs c.as_slice.result.now c.is_empty.result c.as_slice.ensures c.is_empty.ensures.1 c.if-is_empty.false)) (has_written_append _ _ _ _ _ _ (has_written_append _ _ _ _ _ _ one two) three);
}

pub UserInputAstDebug::fmt-returns-in_ok-write-in-Boost : goal.UserInputAstDebug::fmt-returns-in_ok-write-in-Boost
UserInputAstDebug::fmt-returns-in_ok-write-in-Boost g t c = record {
  writes = λ p ok.
      let one : HasWritten g.W.Write.write_str_gives c.args.f.now ((codes "(" ++ debug_text c.get.result.now) ++ codes ")^") c.write.new.self = search rules in
      let two : HasWritten g.W.Write.write_str_gives c.write.new.self (decimal_text c.in-Boost.factor.whole c.in-Boost.factor.fraction) c.show_number.new.f = search rules in
      has_written_of_eq _ _ _ _ _ (boost_shown c.args.self.now _ c.get.result.now c.in-Boost.factor c.in-Boost.is c.get.ensures) (has_written_append _ _ _ _ _ _ one two);
}

pub UserInputAstDebug::fmt-returns-in-Leaf : goal.UserInputAstDebug::fmt-returns-in-Leaf
UserInputAstDebug::fmt-returns-in-Leaf g t c = record {
  writes = λ p ok.
      let one : HasWritten g.W.Write.write_str_gives c.args.f.now (leaf_text c.get-in-Leaf.result.now) c.fmt.new.f = search rules in
      has_written_of_eq _ _ _ _ _ (leaf_shown c.args.self.now _ c.get-in-Leaf.result.now c.in-Leaf.is c.get-in-Leaf.ensures) one;
}

pub show_pairs-loop-shown-preserved : goal.show_pairs-loop-shown-preserved
show_pairs-loop-shown-preserved g t c =
    λ p.
    let so_far = c.loop-shown.invariant p in
    let lt : c.loop-shown.shown < length c.args.pairs.now = omega arith in
    let one : HasWritten g.W.Write.write_str_gives c.loop-shown.f (gap c.loop-shown.shown) c.show_blank.new.f = search rules in
    let two : HasWritten g.W.Write.write_str_gives c.show_blank.new.f (mark_text c.index-pairs-shown.result.0) c.show_mark.new.f = search rules in
    let three : HasWritten g.W.Write.write_str_gives c.show_mark.new.f (debug_text c.index-pairs-shown.result.1) c.fmt.new.f = search rules in
    has_written_of_eq _ _ _ _ _ (join_turn whole_pair c.args.pairs.now c.loop-shown.shown c.index-pairs-shown.result lt c.index-pairs-shown.is)
    (has_written_append _ _ _ _ _ _ (has_written_append _ _ _ _ _ _ so_far one) (has_written_append _ _ _ _ _ _ two three))
