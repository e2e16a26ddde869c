use Rattle.std.proofs.Common.{◌∙◌, sym, ap, ◌<◌, length, arith}
use Rattle.std.proofs.lemmas.Result.{IfOk-weaker}
use Rattle.query_tree.specs.declared.tree.UserInputAst.TheVariants.{Clause}
use Rattle.query_json.proofs.Shapes.{clause_written, boost_written, leaf_written, pair_turn}
use Rattle.query_json.proofs.trees.+writing.Goals as goal

pub push_tree-returns-in_ok-push_pairs-in-Clause : goal.push_tree-returns-in_ok-push_pairs-in-Clause
push_tree-returns-in_ok-push_pairs-in-Clause t c =
    IfOk-weaker c.push_str-in-Clause.result _ _
    (λ _ h. clause_written c.args.tree.now c.as_slice.result.now c.args.out.now c.push_str.new.self c.push_pairs.new.out c.push_str-in-Clause.new.self
    (c.in-Clause.is ∙ ap Clause (sym c.as_slice.ensures)) c.in_ok-push_str-in-Clause.ensures.ok c.in_ok-push_pairs-in-Clause.ensures h)
    c.push_str-in-Clause.ensures.ok

pub push_tree-returns-in_ok-push_decimal-in-Boost : goal.push_tree-returns-in_ok-push_decimal-in-Boost
push_tree-returns-in_ok-push_decimal-in-Boost t c =
    IfOk-weaker c.push_str-in-Boost-3.result _ _
    (λ _ h. boost_written c.args.tree.now c.in-Boost.tree c.get.result.now c.in-Boost.factor c.args.out.now c.push_str-in-Boost.new.self c.push_tree.new.out c.push_str-in-Boost-2.new.self
    c.push_decimal.new.out c.push_str-in-Boost-3.new.self c.in-Boost.is c.get.ensures c.in_ok-push_str-in-Boost.ensures.ok c.in_ok-push_tree-in-Boost.ensures
    c.in_ok-push_str-in-Boost-2.ensures.ok c.in_ok-push_decimal-in-Boost.ensures h)
    c.push_str-in-Boost-3.ensures.ok

pub push_tree-returns-in-Leaf : goal.push_tree-returns-in-Leaf
push_tree-returns-in-Leaf t c =
    IfOk-weaker c.push_leaf.result _ _ (λ _ h. leaf_written c.args.tree.now c.in-Leaf.leaf c.get-in-Leaf.result.now c.args.out.now c.push_leaf.new.out c.in-Leaf.is c.get-in-Leaf.ensures h)
    c.push_leaf.ensures

pub push_pairs-loop-written-preserved : goal.push_pairs-loop-written-preserved
push_pairs-loop-written-preserved t c =
    let lt : c.loop-written.written < length c.args.pairs.now = omega arith in
    pair_turn c.args.pairs.now c.loop-written.written c.index-pairs-written.result c.args.out.now c.loop-written.out c.push_comma.new.out c.push_str.new.self c.push_mark.new.out
    c.push_str-in-loop-written.new.self c.push_tree.new.out c.push_str-in-loop-written-2.new.self lt c.index-pairs-written.is c.loop-written.invariant c.in_ok-push_comma.ensures
    c.in_ok-push_str.ensures.ok c.in_ok-push_mark.ensures c.in_ok-push_str-2.ensures.ok c.in_ok-push_tree.ensures c.in_ok-push_str-3.ensures.ok
