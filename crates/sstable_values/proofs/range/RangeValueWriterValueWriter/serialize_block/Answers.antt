use Rattle.std.proofs.Common.{Result, Ok, Err, OnOk}
use Rattle.sstable_values.proofs.RangeLaws.{range-spelled, range-again}
use Rattle.sstable_values.proofs.range.RangeValueWriterValueWriter.serialize_block.Goals as goal

on_ok : {T E : Type 0} (r : Result T E) (P Q : Type 0) → (P → Q) → OnOk r P → OnOk r Q
on_ok (Ok x) P Q f p = f p
on_ok (Err e) P Q f p = tt

pub returns-clause-ok : goal.returns-clause-ok
returns-clause-ok c =
    rw (range-spelled c.args.self.now.vals.items c.args.self.now.ordered) (rw c.as_slice.ensures.value at c.write_rising.ensures.ok)

pub returns-clause-again : goal.returns-clause-again
returns-clause-again c =
    let again = rw c.as_slice.ensures.value at c.write_rising.ensures.again in
    on_ok c.write_rising.result _ _ (λ read rest. range-again c.args.self.now.vals.items rest c.args.self.now.ordered (read rest)) again
