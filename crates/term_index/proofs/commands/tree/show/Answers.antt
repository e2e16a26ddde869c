-- The tree's line is printed.
use Rattle.term_index.proofs.TreeLaws.{printed_ends, printed_tree}
use Rattle.term_index.proofs.commands.tree.show.Goals as goal

pub returns-in-Ok-clause-ends : goal.returns-in-Ok-clause-ends
returns-in-Ok-clause-ends g c = printed_ends c.args.query.now c.in-Ok.tree c.in-Ok.ensures _ _ c.print_tree.result c.print_tree.ensures.prints

pub returns-in-Ok-clause-prints : goal.returns-in-Ok-clause-prints
returns-in-Ok-clause-prints g c = printed_tree c.args.query.now c.in-Ok.tree c.in-Ok.ensures _ _ c.print_tree.result c.print_tree.ensures.prints
