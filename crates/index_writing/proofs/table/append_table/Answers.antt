use Rattle.index_writing.proofs.Inserts.{gains-table, not-long}
use Rattle.index_writing.proofs.table.append_table.Goals as goal

pub finish-requires-clause-ready : goal.finish-requires-clause-ready
finish-requires-clause-ready c = (c.in_ok-writer.ensures).ready

pub finish-requires-clause-short : goal.finish-requires-clause-short
finish-requires-clause-short c = not-long _ c.args.sink _ c.in_ok-writer.ensures c.requires.small

pub returns : goal.returns
returns c = gains-table c.finish.result _ c.args.sink _ c.in_ok-writer.ensures c.finish.ensures
