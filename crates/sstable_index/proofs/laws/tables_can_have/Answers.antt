use Rattle.sstable_index.proofs.Tables.{tables-can-have}
use Rattle.sstable_index.proofs.laws.tables_can_have.Goals as goal

pub returns : goal.returns
returns g c = tables-can-have g.T.ValueReader.codec
