use Rattle.std.proofs.Common.{◌<◌, Some, length, ap, sym, ◌∙◌, arith}
use Rattle.std.proofs.lemmas.List.{get_or_read}
use Rattle.block_addresses.specs.Found.{element_at}
use Rattle.sstable_index.proofs.Looking.{addresses-seen, element-past, element-is}
use Rattle.sstable_index.proofs.index_v2.SSTableIndexV2.get_block.Goals as goal

pub returns-then-block_id-len : goal.returns-then-block_id-len
returns-then-block_id-len c =
    sym (ap (λ places. element_at places c.args.block_id) (addresses-seen c.self.inside.keys c.self.inside.addresses.items c.args.self.now c.self.invariant c.self.view_is)
    ∙ element-past c.self.inside.addresses.items c.args.block_id (omega (arith, c.if-block_id-len.true, c.len.ensures, c.self.inside.addresses.ok.0)))

pub returns : goal.returns
returns c =
    let within : c.args.block_id < length c.self.inside.addresses.items = omega (arith, c.if-block_id-len.false, c.len.ensures, c.self.inside.addresses.ok.0) in
    ap Some (c.addr.view_is ∙ get_or_read c.self.inside.addresses.items _ _ within c.index-addr.ensures c.index-addr.result.now)
    ∙ sym (ap (λ places. element_at places c.args.block_id) (addresses-seen c.self.inside.keys c.self.inside.addresses.items c.args.self.now c.self.invariant c.self.view_is)
    ∙ element-is c.self.inside.addresses.items c.args.block_id c.index-addr.result.now within)
