use Rattle.std.proofs.Common.{◌≡◌, map, Some}
use Rattle.query_tree.proofs.building.marked.Given as goal

abbrev pub invariant-loop-tree : goal.invariant-loop-tree
invariant-loop-tree l = l.pairs.items ≡ map (λ tree. (Some l.occur, tree)) l.yielded
