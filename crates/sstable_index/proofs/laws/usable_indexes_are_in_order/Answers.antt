use Rattle.sstable_index.proofs.InOrder.{in-order}
use Rattle.sstable_index.proofs.laws.usable_indexes_are_in_order.Goals as goal

pub returns : goal.returns
returns c = in-order
