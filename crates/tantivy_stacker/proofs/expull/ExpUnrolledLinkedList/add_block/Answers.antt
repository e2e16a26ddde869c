use Rattle.std.proofs.Common.{◌≡◌, ◌+◌, sym, ap, subst, arith, ◌∙◌}
use Rattle.tantivy_stacker.specs.Arena.{HandsOut}
use Rattle.tantivy_stacker.specs.Lists.{block_size}
use Rattle.tantivy_stacker.proofs.Lists.{first_block, next_block_added, free_lies, number_small}
use Rattle.tantivy_stacker.proofs.expull.ExpUnrolledLinkedList.add_block.Goals as goal

pub returns-then-self-eq-FIRST_BLOCK_NUM-clause-extended :
    goal.returns-then-self-eq-FIRST_BLOCK_NUM-clause-extended
returns-then-self-eq-FIRST_BLOCK_NUM-clause-extended c =
    let a = c.args.arena.now in
    let b = c.allocate_space.new.self in
    let m = c.begin_block.new.self in
    let size : c.next_block_size-size.result ≡ block_size m.block_num = c.next_block_size-size.ensures.value ∙ ap block_size (sym c.begin_block.ensures.new.number) in
    first_block a b c.args.self.now m c.in-Ok.addr c.if-self-eq-FIRST_BLOCK_NUM.true c.begin_block.ensures.new (subst (λ k. HandsOut a b c.in-Ok.addr (k + 4)) size c.in-Ok.ensures.laws)

pub write_at-requires : goal.write_at-requires
write_at-requires c =
    let l = c.args.self.now in
    let counted = c.requires.laid_out.counted in
    c.in-Ok.ensures.laws.keeps.lies l.tail 4 (free_lies c.args.arena.now l c.requires.laid_out (omega arith) 4 (omega arith) (omega arith))

pub begin_block-requires-2-clause-number : goal.begin_block-requires-2-clause-number
begin_block-requires-2-clause-number c =
    let l = c.args.self.now in
    let counted = c.requires.laid_out.counted in
    number_small c.args.arena.now l c.requires.laid_out (omega arith) c.in-Ok.ensures.pages

pub returns-clause-extended : goal.returns-clause-extended
returns-clause-extended c =
    let a = c.args.arena.now in
    let b = c.allocate_space.new.self in
    let l = c.args.self.now in
    let m = c.begin_block-2.new.self in
    let counted = c.requires.laid_out.counted in
    let size : c.next_block_size-size.result ≡ block_size m.block_num = c.next_block_size-size.ensures.value ∙ ap block_size (sym c.begin_block-2.ensures.new.number) in
    next_block_added a b c.write_at.new.self l m c.in-Ok.addr _ c.requires.laid_out (omega arith) c.requires.no_rest c.begin_block-2.ensures.new (subst (λ k. HandsOut a b c.in-Ok.addr (k + 4)) size c.in-Ok.ensures.laws) c.write_at.ensures.written c.write_at.ensures.size c.write_at.ensures.again
