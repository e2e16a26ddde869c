use Rattle.std.proofs.Common.{ap, ◌∙◌, arith}
use Rattle.sstable_blocks.specs.Comparing.{order}
use Rattle.owned_bytes.specs.Keys.{shared}
use Rattle.sstable_blocks.proofs.ComparingLaws.{compares-behind, matched-within, rest_is}
use Rattle.sstable_blocks.proofs.comparator.compare_behind.Goals as goal

pub returns-then-target-matched : goal.returns-then-target-matched
returns-then-target-matched c = λ last is. absurd (omega (arith, matched-within c.args.target.now last c.args.matched is))

pub returns : goal.returns
returns c = λ last is. compares-behind c.args.target.now last c.args.suffix.now c.args.matched c.compare_bytes-more.result.0 c.compare_bytes-more.result.1 is
    (c.compare_bytes-more.ensures.common ∙ ap (shared c.args.suffix.now) (rest_is c.args.matched c.args.target.now))
    (c.compare_bytes-more.ensures.order ∙ ap (order c.args.suffix.now) (rest_is c.args.matched c.args.target.now))
