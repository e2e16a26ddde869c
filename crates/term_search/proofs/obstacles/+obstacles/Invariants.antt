use Rattle.std.proofs.Common.{take}
use Rattle.term_search.specs.Leaves.{Sees, leaves_among}
use Rattle.term_search.proofs.obstacles.+obstacles.Given as goal

abbrev pub invariant-obstacles_among-loop-pair : goal.invariant-obstacles_among-loop-pair
invariant-obstacles_among-loop-pair l = Sees (leaves_among (take l.pair-index l.pairs)) l.found
