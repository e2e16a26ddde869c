use Rattle.tantivy_stacker.specs.Arena.{bytes_at}
use Rattle.tantivy_stacker.specs.Lists.{block_size, used}
use Rattle.std.proofs.Common.{◌≡◌, ◌+◌, ◌%◌, ◌^◌, ◌∙◌, arith}
use Rattle.tantivy_stacker.proofs.Reading.{nothing_read, reading_begin, end_lies, end_bytes, block_lies, link_lies, reading_more, last_read, last_kept}
use Rattle.tantivy_stacker.proofs.expull.ExpUnrolledLinkedList.read_to_end.Goals as goal

pub returns-then-self-eq-FIRST_BLOCK_NUM-clause-bytes :
    goal.returns-then-self-eq-FIRST_BLOCK_NUM-clause-bytes
returns-then-self-eq-FIRST_BLOCK_NUM-clause-bytes c =
    nothing_read c.args.arena.now c.args.self.now c.args.output.now.items c.if-self-eq-FIRST_BLOCK_NUM.true

pub loop-block_num-init : goal.loop-block_num-init
loop-block_num-init c =
    let counted = c.requires.laid_out.counted in
    reading_begin c.args.arena.now c.args.self.now c.args.output.now.items c.requires.laid_out (omega arith)

pub slice-requires : goal.slice-requires
slice-requires c =
    let r = c.loop-block_num in
    rw c.block_size-size.ensures.value (block_lies c.args.arena.now c.args.self.now r.block_num r.addr c.args.output.now.items r.output.items r.invariant c.loop-block_num-test.true)

pub returns-in_err-extend_from_slice-clause-kept :
    goal.returns-in_err-extend_from_slice-clause-kept
returns-in_err-extend_from_slice-clause-kept c =
    let kept = c.loop-block_num.invariant.kept in
    (kept.0, c.in_err-extend_from_slice.ensures.items ∙ kept.1)

pub read-addr-requires : goal.read-addr-requires
read-addr-requires c =
    let r = c.loop-block_num in
    let at : c.offset.result ≡ (r.addr + block_size r.block_num) % 2 ^ 32 = rw (← c.block_size-size.ensures.value) c.offset.ensures in
    link_lies c.args.arena.now c.args.self.now r.block_num r.addr c.args.output.now.items r.output.items r.invariant c.loop-block_num-test.true c.offset.result c.slice.ensures.pages at

pub loop-block_num-preserved : goal.loop-block_num-preserved
loop-block_num-preserved c =
    let r = c.loop-block_num in
    let a = c.args.arena.now in
    let at : c.offset.result ≡ (r.addr + block_size r.block_num) % 2 ^ 32 = rw (← c.block_size-size.ensures.value) c.offset.ensures in
    let piece : c.slice.result.now ≡ bytes_at a r.addr (block_size r.block_num) = rw (← c.block_size-size.ensures.value) c.slice.ensures.bytes in
    rw (c.in_ok-extend_from_slice.ensures.items, piece) (reading_more a c.args.self.now r.block_num r.addr c.args.output.now.items r.output.items r.invariant c.loop-block_num-test.true c.offset.result c.read-addr.result c.slice.ensures.pages at c.read-addr.ensures.item)

pub slice-requires-2 : goal.slice-requires-2
slice-requires-2 c =
    let r = c.loop-block_num in
    let counted = c.requires.laid_out.counted in
    let within = r.invariant.within in
    rw c.block_size.ensures.value (end_lies c.args.arena.now c.args.self.now c.args.output.now.items c.requires.laid_out (omega arith) r.block_num r.addr r.output.items r.invariant (omega arith))

pub returns-clause-bytes : goal.returns-clause-bytes
returns-clause-bytes c =
    let r = c.loop-block_num in
    let a = c.args.arena.now in
    let counted = c.requires.laid_out.counted in
    let within = r.invariant.within in
    let piece : c.slice-2.result.now ≡ bytes_at a r.addr (used c.args.self.now) = rw (← c.block_size.ensures.value) c.slice-2.ensures.bytes in
    last_read c.extend_from_slice-2.result c.extend_from_slice-2.new.self.items r.output.items c.slice-2.result.now _ c.extend_from_slice-2.ensures.items
    (rw piece (end_bytes a c.args.self.now c.args.output.now.items c.requires.laid_out (omega arith) r.block_num r.addr r.output.items r.invariant (omega arith)))

pub returns-clause-kept : goal.returns-clause-kept
returns-clause-kept c =
    let r = c.loop-block_num in
    last_kept c.extend_from_slice-2.result c.extend_from_slice-2.new.self.items c.args.output.now.items r.output.items c.slice-2.result.now c.extend_from_slice-2.ensures.items r.invariant.kept
