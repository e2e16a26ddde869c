use Rattle.term_search.proofs.Trees.{lone_leaf}
use Rattle.term_search.proofs.lone.leaf_literal.Goals as goal

pub returns-in-Literal : goal.returns-in-Literal
returns-in-Literal c = lone_leaf c.args.tree.now _ c.get.result.now c.in-Literal.literal c.in-Leaf.is c.get.ensures c.in-Literal.is
