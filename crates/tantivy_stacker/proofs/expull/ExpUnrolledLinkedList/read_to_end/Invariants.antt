use Rattle.tantivy_stacker.proofs.Reading.{IsReading}
use Rattle.tantivy_stacker.proofs.expull.ExpUnrolledLinkedList.read_to_end.Given as goal

abbrev pub invariant-loop-block_num : goal.invariant-loop-block_num
invariant-loop-block_num l = IsReading l.arena l.self l.block_num l.addr l.initial.output.items l.output.items
