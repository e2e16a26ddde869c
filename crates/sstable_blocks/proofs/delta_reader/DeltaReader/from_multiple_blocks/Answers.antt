use Rattle.std.proofs.Common.{subst}
use Rattle.sstable_blocks.specs.EntryReader.{sliced}
use Rattle.sstable_blocks.specs.Slices.{Begins}
use Rattle.sstable_blocks.proofs.SliceLaws.{before-left}
use Rattle.sstable_blocks.proofs.delta_reader.DeltaReader.from_multiple_blocks.Goals as goal

pub returns-clause-begins : goal.returns-clause-begins
returns-clause-begins g c = subst (λ s. Begins g.T.ValueReader.codec (sliced g.T.ValueReader.loaded c.over.result) s) c.from_multiple_blocks.ensures c.over.ensures

pub returns-clause-entries : goal.returns-clause-entries
returns-clause-entries g c = before-left g.T.ValueReader.codec _ c.args.readers.items (returns-clause-begins g c)
