use Rattle.sstable_index.proofs.Looking.{AreNumbered}
use Rattle.sstable_index.proofs.index_v3.is_numbered.Given as goal

abbrev pub invariant-loop-i : goal.invariant-loop-i
invariant-loop-i l = AreNumbered l.fst l.i
