use Rattle.common_bitset.specs.Laws.Stored.{Stores-push, IsBelow-word_in}
use Rattle.common_bitset.proofs.read_only.written_words.Goals as goal

pub loop-k-preserved : goal.loop-k-preserved
loop-k-preserved c =
    Stores-push c.extend_from_slice.new.self.items c.into_bytes.result c.tinyset.result c.loop-k.invariant (IsBelow-word_in c.args.bitset.now.elements c.loop-k.k)
    c.tinyset.ensures c.into_bytes.ensures c.in_ok-extend_from_slice.ensures.items
