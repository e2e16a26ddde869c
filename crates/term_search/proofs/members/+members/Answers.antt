use Rattle.std.proofs.Common.{◌∙◌, ap}
use Rattle.std.specs.List.{list_any}
use Rattle.printed_queries.specs.Satisfies.{satisfies}
use Rattle.term_search.specs.Leaves.{is_waiting_leaf}
use Rattle.term_search.specs.Members.{lookups_among, meets_clause, meets_leaf}
use Rattle.term_search.proofs.Leaf.{finds_same_ok}
use Rattle.term_search.proofs.Trees.{clause_means, boost_means, leaf_means, clause_leaves, boost_leaves, leaf_waits, leaf_lookups, same_error, joins_next, joined_finds, pairs_next, pairs_ended, error_among}
use Rattle.term_search.proofs.Asking.{asks_same}
use Rattle.term_search.proofs.members.+members.Goals as goal

pub clause_members-returns-in-Err-clause-error : goal.clause_members-returns-in-Err-clause-error
clause_members-returns-in-Err-clause-error g t c =
    error_among c.args.index.now (g.H.FileHandle.state c.args.file.now) (g.H.FileHandle.state c.loop-pair.file) c.args.pairs.now c.loop-pair.pair-index c.pair-item.result c.in-Err.error c.loop-pair.invariant.asks.leaves.contents c.loop-pair-test.true c.pair-item.is c.in-Err.ensures.error

pub clause_members-returns-in-Err-clause-asks : goal.clause_members-returns-in-Err-clause-asks
clause_members-returns-in-Err-clause-asks g t c =
    pairs_ended c.args.index.now c.args.default.now c.args.pairs.now _ _ _ _
    (pairs_next c.args.index.now c.args.default.now c.args.pairs.now c.loop-pair.pair-index c.pair-item.result _ _ _ _ _ c.loop-pair-test.true c.pair-item.is c.loop-pair.invariant.asks c.in-Err.ensures.asks)

pub clause_members-loop-pair-preserved : goal.clause_members-loop-pair-preserved
clause_members-loop-pair-preserved g t c = record {
  joins = joins_next c.args.index.now _ _ c.args.default.now c.args.pairs.now c.loop-pair.pair-index c.pair-item.result _ _ _
      c.loop-pair.invariant.asks.leaves.contents c.loop-pair-test.true c.pair-item.is c.loop-pair.invariant.joins c.in-Ok.ensures.found c.join.ensures.marks;
  over = c.join.ensures.documents ∙ c.loop-pair.invariant.over;
  asks = pairs_next c.args.index.now c.args.default.now c.args.pairs.now c.loop-pair.pair-index c.pair-item.result _ _ _ _ _ c.loop-pair-test.true c.pair-item.is c.loop-pair.invariant.asks c.in-Ok.ensures.asks;
}

pub clause_members-returns-clause-found : goal.clause_members-returns-clause-found
clause_members-returns-clause-found g t c =
    joined_finds c.args.index.now _ c.args.default.now c.args.pairs.now c.loop-pair.pair-index c.loop-pair.joined _ c.loop-pair-test.false c.loop-pair.invariant.over
    c.into_set.ensures c.loop-pair.invariant.joins

pub clause_members-returns-clause-asks : goal.clause_members-returns-clause-asks
clause_members-returns-clause-asks g t c = pairs_ended c.args.index.now c.args.default.now c.args.pairs.now _ _ _ _ c.loop-pair.invariant.asks

pub tree_members-returns-in-Clause-clause-found : goal.tree_members-returns-in-Clause-clause-found
tree_members-returns-in-Clause-clause-found g t c =
    finds_same_ok _ _ (meets_clause c.args.default.now c.as_slice.result.now) (λ doc. satisfies doc c.args.tree.now c.args.default.now) _
    (λ doc. clause_means doc c.args.default.now c.args.tree.now c.in-Clause.pairs c.as_slice.result.now c.in-Clause.is c.as_slice.ensures) c.clause_members.ensures.found

pub tree_members-returns-in-Clause-clause-error : goal.tree_members-returns-in-Clause-clause-error
tree_members-returns-in-Clause-clause-error g t c =
    same_error c.args.index.now (g.H.FileHandle.state c.args.file.now) _ _ _ (ap (list_any is_waiting_leaf) (clause_leaves c.args.tree.now c.in-Clause.pairs c.as_slice.result.now c.in-Clause.is c.as_slice.ensures)) c.clause_members.ensures.error

pub tree_members-returns-in-Clause-clause-asks : goal.tree_members-returns-in-Clause-clause-asks
tree_members-returns-in-Clause-clause-asks g t c =
    asks_same _ _ _ _ _ _ (ap (lookups_among c.args.default.now) (clause_leaves c.args.tree.now c.in-Clause.pairs c.as_slice.result.now c.in-Clause.is c.as_slice.ensures)) c.clause_members.ensures.asks

pub tree_members-returns-in-Boost-clause-found : goal.tree_members-returns-in-Boost-clause-found
tree_members-returns-in-Boost-clause-found g t c =
    finds_same_ok _ _ (λ doc. satisfies doc c.get.result.now c.args.default.now) (λ doc. satisfies doc c.args.tree.now c.args.default.now) _
    (λ doc. boost_means doc c.args.default.now c.args.tree.now _ c.get.result.now _ c.in-Boost.is c.get.ensures) c.tree_members.ensures.found

pub tree_members-returns-in-Boost-clause-error : goal.tree_members-returns-in-Boost-clause-error
tree_members-returns-in-Boost-clause-error g t c =
    same_error c.args.index.now (g.H.FileHandle.state c.args.file.now) _ _ _ (ap (list_any is_waiting_leaf) (boost_leaves c.args.tree.now _ c.get.result.now _ c.in-Boost.is c.get.ensures)) c.tree_members.ensures.error

pub tree_members-returns-in-Boost-clause-asks : goal.tree_members-returns-in-Boost-clause-asks
tree_members-returns-in-Boost-clause-asks g t c =
    asks_same _ _ _ _ _ _ (ap (lookups_among c.args.default.now) (boost_leaves c.args.tree.now _ c.get.result.now _ c.in-Boost.is c.get.ensures)) c.tree_members.ensures.asks

pub tree_members-returns-in-Leaf-clause-found : goal.tree_members-returns-in-Leaf-clause-found
tree_members-returns-in-Leaf-clause-found g t c =
    finds_same_ok _ _ (meets_leaf c.args.default.now c.get-in-Leaf.result.now) (λ doc. satisfies doc c.args.tree.now c.args.default.now) _
    (λ doc. leaf_means doc c.args.default.now c.args.tree.now _ c.get-in-Leaf.result.now c.in-Leaf.is c.get-in-Leaf.ensures) c.leaf_members.ensures.found

pub tree_members-returns-in-Leaf-clause-error : goal.tree_members-returns-in-Leaf-clause-error
tree_members-returns-in-Leaf-clause-error g t c =
    same_error c.args.index.now (g.H.FileHandle.state c.args.file.now) _ _ _ (leaf_waits c.args.tree.now _ c.get-in-Leaf.result.now c.in-Leaf.is c.get-in-Leaf.ensures) c.leaf_members.ensures.error

pub tree_members-returns-in-Leaf-clause-asks : goal.tree_members-returns-in-Leaf-clause-asks
tree_members-returns-in-Leaf-clause-asks g t c =
    asks_same _ _ _ _ _ _ (leaf_lookups c.args.default.now c.args.tree.now _ c.get-in-Leaf.result.now c.in-Leaf.is c.get-in-Leaf.ensures) c.leaf_members.ensures.asks
