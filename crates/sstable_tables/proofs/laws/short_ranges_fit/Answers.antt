use Rattle.sstable_tables.proofs.RangeTables.{short-fit}
use Rattle.sstable_tables.proofs.laws.short_ranges_fit.Goals as goal

pub returns : goal.returns
returns g c = short-fit
