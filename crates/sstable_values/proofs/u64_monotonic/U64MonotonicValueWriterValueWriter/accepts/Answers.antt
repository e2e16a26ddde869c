use Rattle.std.proofs.Common.{ap, sym, ◌∙◌}
use Rattle.std.specs.Prelude.{nat_le}
use Rattle.sstable_values.specs.Codec.{monotonic_u64}
use Rattle.sstable_values.proofs.MonotonicLaws.{last_is-at}
use Rattle.sstable_values.proofs.u64_monotonic.U64MonotonicValueWriterValueWriter.accepts.Goals as goal

pub returns-in-Some : goal.returns-in-Some
unfolding monotonic_u64
returns-in-Some c =
    let item = rw c.deref.ensures.value at c.in-Some.ensures.item in
    ap (λ n. nat_le n c.args.val.now) (item.3.1 0) ∙ sym (last_is-at (λ last. nat_le last c.args.val.now) c.args.self.now.vals.items 0 item.3.0)
