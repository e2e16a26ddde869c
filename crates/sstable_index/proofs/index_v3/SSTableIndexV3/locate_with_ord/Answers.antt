use Rattle.std.proofs.Common.{sym, ◌∙◌}
use Rattle.sstable_index.proofs.Looking.{addresses-seen, located-by}
use Rattle.sstable_index.proofs.index_v3.SSTableIndexV3.locate_with_ord.Goals as goal

pub returns : goal.returns
returns c =
    located-by c.args.ord c.locate_with_ord.result c.self.inside.block_addr_store _ (addresses-seen _ c.self.inside.block_addr_store c.args.self.now c.self.invariant c.self.view_is)
    c.locate_with_ord.ensures.within c.locate_with_ord.ensures.at_most c.locate_with_ord.ensures.last
