use Rattle.std.proofs.Common.{nat_eq, sym, ap, ◌∙◌}
use Rattle.std.specs.Result.{is_ok}
use Rattle.sstable_values.specs.Values.{Listed}
use Rattle.sstable_values.specs.Codec.{range}
use Rattle.sstable_values.proofs.RangeLaws.{bounds-more, bounds-kept}
use Rattle.sstable_values.proofs.range.RangeValueWriterValueWriter.write.Goals as goal

pub invariant_of-self-else-is_empty : goal.invariant_of-self-else-is_empty
unfolding range
invariant_of-self-else-is_empty c =
    let some = ap (λ n. nat_eq n 0) (sym c.args.self.now.vals.ok.0) ∙ sym c.if-is_empty.ensures in
    record { ordered = rw c.push.ensures.items (bounds-kept (is_ok c.push.result) c.args.self.now.vals.items c.args.val.now c.args.self.now.ordered some (sym c.if-not-accepts.ensures)) }

pub returns-in_ok-push-clause-ok : goal.returns-in_ok-push-clause-ok
unfolding range
returns-in_ok-push-clause-ok c =
    let some = ap (λ n. nat_eq n 0) (sym c.args.self.now.vals.ok.0) ∙ sym c.if-is_empty.ensures in
    rw c.in_ok-push.ensures.items (ap Listed ((bounds-more c.args.self.now.vals.items c.args.val.now c.args.self.now.ordered some (sym c.if-not-accepts.ensures)).1))
