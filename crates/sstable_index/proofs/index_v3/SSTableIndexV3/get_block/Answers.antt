use Rattle.std.proofs.Common.{ap, sym, ◌∙◌, map}
use Rattle.block_addresses.specs.Found.{element_at}
use Rattle.sstable_index.proofs.Looking.{addresses-seen}
use Rattle.sstable_index.proofs.index_v3.SSTableIndexV3.get_block.Goals as goal

pub returns : goal.returns
returns c = c.get.ensures.element ∙ ap (λ places. element_at places c.args.block_id) (sym (addresses-seen _ c.self.inside.block_addr_store c.args.self.now c.self.invariant c.self.view_is))
