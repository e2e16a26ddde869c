use Rattle.index_writing.proofs.Inserts.{not-refused-at, adds-at}
use Rattle.index_writing.proofs.table.insert_next.Goals as goal

pub returns-in-Ok : goal.returns-in-Ok
returns-in-Ok c = adds-at _ _ _ _ _ c.as_slice.ensures (c.in-Ok.ensures.gathers c.requires.gathers).1

pub unreachable-requires : goal.unreachable-requires
unreachable-requires c = not-refused-at _ c.args.key.now c.as_slice.result.now c.args.places c.in-Err.error c.as_slice.ensures c.requires.taken (c.in-Err.ensures.gathers c.requires.gathers).0 c.in_default.not-Memory
