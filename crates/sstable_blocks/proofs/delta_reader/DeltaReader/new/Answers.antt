use Rattle.std.proofs.Common.{subst}
use Rattle.sstable_blocks.specs.BlockReader.{before_bytes}
use Rattle.sstable_blocks.specs.EntryReader.{sliced}
use Rattle.sstable_blocks.specs.Slices.{Begins}
use Rattle.sstable_blocks.proofs.SliceLaws.{new-left, here-left}
use Rattle.sstable_blocks.proofs.delta_reader.DeltaReader.new.Goals as goal

pub returns-clause-begins : goal.returns-clause-begins
returns-clause-begins g c = subst (λ s. Begins g.T.ValueReader.codec (sliced g.T.ValueReader.loaded c.over.result) s) c.new.ensures c.over.ensures

pub returns-clause-run : goal.returns-clause-run
returns-clause-run g c = here-left g.T.ValueReader.codec _ (before_bytes c.args.reader c.args.start) (returns-clause-begins g c)

pub returns-clause-entries : goal.returns-clause-entries
returns-clause-entries g c next = new-left g.T.ValueReader.codec _ c.args.reader c.args.start next (returns-clause-begins g c)
