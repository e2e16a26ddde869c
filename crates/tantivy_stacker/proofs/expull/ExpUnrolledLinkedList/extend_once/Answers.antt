use Rattle.tantivy_stacker.proofs.Lists.{Extends-then}
use Rattle.tantivy_stacker.proofs.expull.ExpUnrolledLinkedList.extend_once.Goals as goal

pub returns-in-Ok-clause-extended : goal.returns-in-Ok-clause-extended
returns-in-Ok-clause-extended c = Extends-then c.in-Ok.ensures.extended c.fill.ensures.extended
