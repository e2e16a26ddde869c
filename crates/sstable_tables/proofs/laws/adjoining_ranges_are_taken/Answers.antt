use Rattle.sstable_tables.proofs.RangeTables.{adjoining-taken, last-ends}
use Rattle.sstable_tables.proofs.laws.adjoining_ranges_are_taken.Goals as goal

pub returns-clause-next : goal.returns-clause-next
returns-clause-next g c = adjoining-taken

pub returns-clause-last : goal.returns-clause-last
returns-clause-last g c = last-ends
