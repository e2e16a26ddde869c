use Rattle.std.proofs.Common.{◌≡◌, ap, ◌∙◌}
use Rattle.std.specs.Prelude.{nat_eq, false}
use Rattle.std.proofs.lemmas.Bool.{ne_eqb}
use Rattle.sstable_values.specs.Values.{Listed}
use Rattle.sstable_values.specs.Codec.{index}
use Rattle.sstable_values.proofs.IndexLaws.{accepts-then, accepts-else, nowhere}
use Rattle.sstable_values.proofs.index.IndexValueWriterValueWriter.accepts.Goals as goal

pub returns-then-last-range : goal.returns-then-last-range
returns-then-last-range c =
    let item = rw c.deref.ensures.value at c.in-Some.ensures.item in
    accepts-then c.args.self.now.vals.items _ _ nowhere item.3.0 (c.last-in-Some.view_is ∙ item.3.1 nowhere) c.if-range.true c.if-last-range.true
    ∙ ap (index.accepts (Listed c.args.self.now.vals.items)) c.val.view_is

pub returns-else-last-range : goal.returns-else-last-range
returns-else-last-range c =
    let item = rw c.deref.ensures.value at c.in-Some.ensures.item in
    let apart : nat_eq c.last-in-Some.inside.byte_range.end c.val.inside.byte_range.start ≡ false = ne_eqb _ _ c.if-last-range.false in
    apart ∙ accepts-else c.args.self.now.vals.items _ _ nowhere item.3.0 (c.last-in-Some.view_is ∙ item.3.1 nowhere) c.if-range.true apart
    ∙ ap (index.accepts (Listed c.args.self.now.vals.items)) c.val.view_is
