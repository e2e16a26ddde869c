use Rattle.std.proofs.Common.{sym}
use Rattle.std.specs.Result.{is_ok}
use Rattle.sstable_values.proofs.IndexLaws.{in_turn-kept}
use Rattle.sstable_values.proofs.index.IndexValueWriterValueWriter.write.Goals as goal

pub invariant_of-self : goal.invariant_of-self
invariant_of-self c = record {
  ordered = rw (c.push.ensures.items, c.val.view_is) (in_turn-kept (is_ok c.push.result) c.args.self.now.vals.items c.args.val.now c.args.self.now.ordered (sym c.if-not-accepts.ensures));
}
