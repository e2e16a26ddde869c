use Rattle.term_search.proofs.Trees.{lone_clause}
use Rattle.term_search.proofs.lone.lone_literal.Goals as goal

pub returns-in-Some : goal.returns-in-Some
returns-in-Some c = lone_clause c.args.tree.now c.in-Clause.pairs c.as_slice.result.now c.in-Some.literal.now c.in-Clause.is c.as_slice.ensures c.in-Some.ensures
