use Rattle.std.proofs.Common.{length}
use Rattle.tantivy_stacker.proofs.Appending.{IsAppending}
use Rattle.tantivy_stacker.proofs.expull.ExpUnrolledLinkedList.append.Given as goal

abbrev pub invariant-loop-rest : goal.invariant-loop-rest
invariant-loop-rest l = IsAppending l.fn.arena l.arena l.fn.self l.self l.fn.buf l.rest

abbrev pub decreases-loop-rest : goal.decreases-loop-rest
decreases-loop-rest l = length l.rest
