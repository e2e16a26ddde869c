use Rattle.std.proofs.Common.{arith, ap, ◌∙◌}
use Rattle.tantivy_stacker.specs.Hashing.{mixed}
use Rattle.tantivy_stacker.proofs.Hashes.{hash_more}
use Rattle.tantivy_stacker.proofs.hash.get_hash.Goals as goal

pub loop-word-preserved : goal.loop-word-preserved
loop-word-preserved c =
    let i = c.loop-word.invariant in
    let size = i.0 in
    hash_more _ c.loop-word._word c.loop-word.gathered _ _ c.mix-gathered.result c.loop-word.rest.now c.args.key.now c.loop-word-test.true (omega arith) (c.mix-gathered.ensures ∙ ap (mixed c.loop-word.gathered) c.first_word.ensures) i
