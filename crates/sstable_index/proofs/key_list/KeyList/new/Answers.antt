use Rattle.std.proofs.Common.{[]}
use Rattle.sstable_index.proofs.KeysKept.{kept-again, kept-seen, kept-none}
use Rattle.sstable_index.proofs.key_list.KeyList.new.Goals as goal

pub invariant_of-result : goal.invariant_of-result
invariant_of-result c = kept-again _ _ [] (kept-none _ _ c.new.ensures.items c.new-2.ensures.items)

pub returns : goal.returns
returns c = kept-seen _ _ [] (kept-none _ _ c.new.ensures.items c.new-2.ensures.items)
