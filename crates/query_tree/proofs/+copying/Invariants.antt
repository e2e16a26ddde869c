use Rattle.std.proofs.Common.{◌≡◌, take}
use Rattle.query_tree.proofs.+copying.Given as goal

abbrev pub invariant-copies::pairs_copied-loop-pair : goal.invariant-copies::pairs_copied-loop-pair
invariant-copies::pairs_copied-loop-pair l = l.copy ≡ take l.pair-index l.pairs
