use Rattle.std.proofs.Common.{arith}
use Rattle.common_bitset.specs.Laws.Sets.{intersection-empty}
use Rattle.common_bitset.specs.Laws.Stored.{stored_past}
use Rattle.common_bitset.proofs.WordLoops.{Applied-more, Applied-all}
use Rattle.common_bitset.proofs.words.intersect_stored.Goals as goal

pub loop-k-preserved : goal.loop-k-preserved
loop-k-preserved c =
    Applied-more c.index-left-k.result c.stored.result c.intersect-word.result c.len.result c.loop-k.invariant (omega arith) c.index-left-k.is
    c.stored.ensures c.intersect-word.ensures c.len.ensures.count c.len.ensures.most

pub returns-clause-words : goal.returns-clause-words
returns-clause-words c = Applied-all c.loop-k.invariant (omega arith) (omega arith) (λ j h. stored_past c.args.right.now j (omega arith)) intersection-empty
