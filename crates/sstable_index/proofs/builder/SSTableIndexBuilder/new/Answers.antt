use Rattle.sstable_index.proofs.Builds.{built-is, built-again, built-none}
use Rattle.sstable_index.proofs.builder.SSTableIndexBuilder.new.Goals as goal

pub invariant_of-result : goal.invariant_of-result
invariant_of-result c = built-again _ _ _ _ _ (built-none _ _ _ _ c.new.ensures.items c.new-2.ensures.items c.new-3.ensures.items c.new-4.ensures.items)

pub returns : goal.returns
returns c = built-is _ _ _ _ _ (built-none _ _ _ _ c.new.ensures.items c.new-2.ensures.items c.new-3.ensures.items c.new-4.ensures.items)
