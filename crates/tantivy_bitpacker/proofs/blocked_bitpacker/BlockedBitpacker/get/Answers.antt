use Rattle.std.proofs.Common.{◌%◌, ◌-◌, ◌*◌, ◌<◌, length, get_or, ap, ◌∙◌, arith}
use Rattle.std.proofs.lemmas.List.{get_or_read}
use Rattle.tantivy_bitpacker.specs.Blocked.{block_numbers}
use Rattle.tantivy_bitpacker.proofs.Blocks.{numbers-in_block, numbers-in_tail, numbers-in_buffer, numbers-length}
use Rattle.tantivy_bitpacker.proofs.blocked_bitpacker.BlockedBitpacker.get.Goals as goal

pub returns-then-block-len : goal.returns-then-block-len
returns-then-block-len c =
    let inside = c.self.inside in
    c.get.ensures ∙ ap (λ block. get_or (block_numbers block) (c.args.idx % 128) 0) c.index.ensures
    ∙ numbers-in_block inside.blocks.items inside.tail inside.buffer.items c.args.idx c.index.result.now c.self.invariant.blocks_full (omega (arith, inside.blocks.ok.0)) ∙ ap (λ l. get_or l c.args.idx 0) c.self.view_is

pub index-requires-else-rest-self : goal.index-requires-else-rest-self
index-requires-else-rest-self c =
    let inside = c.self.inside in
    omega (arith, numbers-length inside.blocks.items inside.tail inside.buffer.items c.self.invariant.blocks_full, ap length c.self.view_is, inside.blocks.ok.0, inside.buffer.ok.0)

pub returns-then-rest-self : goal.returns-then-rest-self
returns-then-rest-self c =
    let inside = c.self.inside in
    c.get-then-rest-self.ensures ∙ ap (λ n. get_or (block_numbers inside.tail) (c.args.idx - 128 * n) 0) (c.len-2.ensures ∙ inside.blocks.ok.0)
    ∙ numbers-in_tail inside.blocks.items inside.tail inside.buffer.items c.args.idx c.self.invariant.blocks_full (omega (arith, inside.blocks.ok.0)) (omega (arith, inside.blocks.ok.0)) ∙ ap (λ l. get_or l c.args.idx 0) c.self.view_is

pub returns-else-rest-self : goal.returns-else-rest-self
returns-else-rest-self c =
    let inside = c.self.inside in
    let room : c.args.idx - 128 * c.len-2.result - inside.tail.count < length inside.buffer.items = omega (arith, numbers-length inside.blocks.items inside.tail inside.buffer.items c.self.invariant.blocks_full, ap length c.self.view_is, inside.blocks.ok.0, inside.buffer.ok.0) in
    get_or_read inside.buffer.items _ _ room c.index-else-rest-self.ensures 0 ∙ ap (λ n. get_or inside.buffer.items (c.args.idx - 128 * n - inside.tail.count) 0) (c.len-2.ensures ∙ inside.blocks.ok.0)
    ∙ numbers-in_buffer inside.blocks.items inside.tail inside.buffer.items c.args.idx c.self.invariant.blocks_full (omega (arith, inside.blocks.ok.0)) (omega (arith, inside.blocks.ok.0)) ∙ ap (λ l. get_or l c.args.idx 0) c.self.view_is
