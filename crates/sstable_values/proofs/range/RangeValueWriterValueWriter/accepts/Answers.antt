use Rattle.std.proofs.Common.{nat_eq, ap, sym, ◌∙◌}
use Rattle.std.specs.Prelude.{◌&&◌}
use Rattle.std.proofs.lemmas.Bool.{le-leb}
use Rattle.sstable_values.specs.Codec.{range, spans_between}
use Rattle.sstable_values.specs.Range.{ends_at}
use Rattle.sstable_values.proofs.RangeLaws.{ends_at-bounds}
use Rattle.sstable_values.proofs.range.RangeValueWriterValueWriter.accepts.Goals as goal

pub returns-in-Some : goal.returns-in-Some
unfolding range
returns-in-Some c =
    let item = rw c.deref.ensures.value at c.in-Some.ensures.item in
    let up = le-leb c.args.val.now.start c.args.val.now.end c.if-val.true in
    ap (λ n. nat_eq n c.args.val.now.start) (item.3.1 0) ∙ sym (ends_at-bounds c.args.self.now.vals.items c.args.val.now.start c.args.self.now.ordered item.3.0 0)
    ∙ ap (λ b. b && ends_at (spans_between c.args.self.now.vals.items) c.args.val.now.start) (sym up)
