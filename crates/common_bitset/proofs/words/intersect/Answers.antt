use Rattle.std.proofs.Common.{◌<◌, length, arith}
use Rattle.std.specs.FinSet.{empty}
use Rattle.std.proofs.lemmas.List.{get_or_past}
use Rattle.common_bitset.specs.Laws.Sets.{intersection-empty}
use Rattle.common_bitset.specs.Laws.Laid.{word_read}
use Rattle.common_bitset.proofs.WordLoops.{Applied-more, Applied-all}
use Rattle.common_bitset.proofs.words.intersect.Goals as goal

pub loop-k-preserved : goal.loop-k-preserved
loop-k-preserved c =
    let within : c.loop-k.k < length c.args.right.now = omega arith in
    Applied-more c.index-left-k.result c.index-right-k.result c.intersect-word.result c.len.result c.loop-k.invariant (omega arith) c.index-left-k.is
    (word_read c.args.right.now c.loop-k.k c.index-right-k.result within c.index-right-k.is) c.intersect-word.ensures c.len.ensures.count c.len.ensures.most

pub returns-clause-words : goal.returns-clause-words
returns-clause-words c = Applied-all c.loop-k.invariant (omega arith) (omega arith) (λ j h. get_or_past c.args.right.now j empty (omega arith)) intersection-empty
