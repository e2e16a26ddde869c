use Rattle.std.proofs.Common.{◌≡◌, ◌<◌, ◌++◌, ◌∷◌, [], length, ap, ◌∙◌, arith}
use Rattle.tantivy_bitpacker.specs.Blocked.{block_numbers, all_numbers}
use Rattle.tantivy_bitpacker.proofs.Blocks.{stored_block, stored_tail, none_beside}
use Rattle.std.proofs.lemmas.Bool.Decides.{nat_tests}
use Rattle.tantivy_bitpacker.proofs.blocked_bitpacker.store.Goals as goal
use Rattle.tantivy_bitpacker.proofs.blocked_bitpacker.store.Goals.{then-block-eq-BLOCK_SIZE+in_ok-push, else-block-eq-BLOCK_SIZE}

pub returns-clause-numbers : goal.returns-clause-numbers
returns-clause-numbers c =
    let numbers : block_numbers c.in_ok-block.block ≡ c.args.buffer.now.items = c.in_ok-block.ensures.numbers ∙ c.deref.ensures.value in
    let some : 0 < length c.args.buffer.now.items = grind (arith, nat_tests, c.args.buffer.now.ok.0) in
    let none : c.args.tail.now.count ≡ 0 = none_beside c.args.tail.now.count c.args.buffer.now.items c.requires.apart some in
    ap (all_numbers c.if-block-eq-BLOCK_SIZE.blocks.items c.if-block-eq-BLOCK_SIZE.tail) c.clear.ensures.items ∙ elim c.if-block-eq-BLOCK_SIZE.branch [
      | then-block-eq-BLOCK_SIZE+in_ok-push w ↦
          ap (λ bs. all_numbers bs c.if-block-eq-BLOCK_SIZE.tail []) (ap (λ v. v.items) w.blocks-is ∙ w.in_ok-push.ensures.items) ∙ ap (λ t. all_numbers (c.args.blocks.now.items ++ c.in_ok-block.block ∷ []) t []) w.tail-is
          ∙ stored_block c.args.blocks.now.items c.in_ok-block.block c.args.tail.now c.args.buffer.now.items numbers none
      | else-block-eq-BLOCK_SIZE w ↦
          ap (λ bs. all_numbers bs c.if-block-eq-BLOCK_SIZE.tail []) (ap (λ v. v.items) w.blocks-is) ∙ ap (λ t. all_numbers c.args.blocks.now.items t []) w.tail-is
          ∙ stored_tail c.args.blocks.now.items c.in_ok-block.block c.args.tail.now c.args.buffer.now.items numbers none
    ]
