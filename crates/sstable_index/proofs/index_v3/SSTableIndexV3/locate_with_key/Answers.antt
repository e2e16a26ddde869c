use Rattle.std.proofs.Common.{sym, ◌∙◌}
use Rattle.sstable_index.proofs.Looking.{keys-seen, number-by_map}
use Rattle.sstable_index.proofs.index_v3.SSTableIndexV3.locate_with_key.Goals as goal

pub returns-in-Some : goal.returns-in-Some
returns-in-Some c = sym c.in-Some.is ∙ c.first_at_or_above.ensures ∙ number-by_map c.args.key.now c.self.inside.fst_index c.args.self.now (keys-seen _ c.self.inside.block_addr_store c.args.self.now c.self.invariant c.self.view_is)

pub returns-in-None : goal.returns-in-None
returns-in-None c = sym c.in-None.is ∙ c.first_at_or_above.ensures ∙ number-by_map c.args.key.now c.self.inside.fst_index c.args.self.now (keys-seen _ c.self.inside.block_addr_store c.args.self.now c.self.invariant c.self.view_is)
