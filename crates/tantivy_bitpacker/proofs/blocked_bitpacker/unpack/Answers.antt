use Rattle.std.proofs.Common.{◌++◌, ◌∷◌, [], take, ap, sym, ◌∙◌, arith}
use Rattle.std.proofs.lemmas.List.{take_more, take_all}
use Rattle.tantivy_bitpacker.specs.Blocked.{block_numbers}
use Rattle.tantivy_bitpacker.proofs.Blocks.{block_numbers-length}
use Rattle.tantivy_bitpacker.proofs.blocked_bitpacker.unpack.Goals as goal

pub loop-i-preserved : goal.loop-i-preserved
loop-i-preserved c =
    c.in_ok-push.ensures.items ∙ ap (λ l. l ++ c.get.result ∷ []) c.loop-i.invariant ∙ ap (λ v. take c.loop-i.i (block_numbers c.args.block.now) ++ v ∷ []) c.get.ensures
    ∙ sym (take_more (block_numbers c.args.block.now) c.loop-i.i 0 (omega (arith, block_numbers-length c.args.block.now)))

pub returns : goal.returns
returns c = c.loop-i.invariant ∙ take_all c.loop-i.i (block_numbers c.args.block.now) (omega (arith, block_numbers-length c.args.block.now))
