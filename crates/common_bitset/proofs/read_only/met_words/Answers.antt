use Rattle.std.proofs.Common.{◌∙◌}
use Rattle.std.specs.FinSet.{intersection}
use Rattle.common_bitset.specs.Subset.{stored_word}
use Rattle.common_bitset.specs.Laws.Stored.{Stores-push, IsBelow-meet, IsBelow-stored}
use Rattle.common_bitset.proofs.read_only.met_words.Goals as goal

pub loop-k-preserved : goal.loop-k-preserved
loop-k-preserved c =
    Stores-push c.extend_from_slice.new.self.items c.into_bytes.result c.intersect-word.result c.loop-k.invariant
    (IsBelow-meet (stored_word c.args.left.now c.loop-k.k) (stored_word c.args.right.now c.loop-k.k) (IsBelow-stored c.args.left.now c.loop-k.k))
    (c.intersect-word.ensures ∙ (λ i. intersection (c.stored.ensures i) (c.stored-in-loop-k.ensures i))) c.into_bytes.ensures c.in_ok-extend_from_slice.ensures.items
