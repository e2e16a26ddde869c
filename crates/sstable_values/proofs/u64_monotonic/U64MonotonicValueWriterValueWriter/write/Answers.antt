use Rattle.std.proofs.Common.{sym}
use Rattle.std.specs.Result.{is_ok}
use Rattle.sstable_values.specs.Codec.{monotonic_u64}
use Rattle.sstable_values.proofs.MonotonicLaws.{rising-kept}
use Rattle.sstable_values.proofs.u64_monotonic.U64MonotonicValueWriterValueWriter.write.Goals as goal

pub invariant_of-self : goal.invariant_of-self
unfolding monotonic_u64
invariant_of-self c =
    record { ordered = rw c.push.ensures.items (rising-kept (is_ok c.push.result) c.args.self.now.vals.items c.args.val.now c.args.self.now.ordered (sym c.if-not-accepts.ensures)) }
