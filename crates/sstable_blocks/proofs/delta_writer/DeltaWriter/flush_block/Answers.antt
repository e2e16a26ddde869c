use Rattle.std.proofs.Common.{◌≢◌, ◌∙◌, [], length, ap, sym, arith, length-append}
use Rattle.std.proofs.lemmas.Bool.{eq-eqb, false≢true}
use Rattle.sstable_blocks.proofs.WritingLaws.{open-none, run_written}
use Rattle.sstable_blocks.proofs.delta_writer.DeltaWriter.flush_block.Goals as goal

pub returns-in-Ok-clause-run : goal.returns-in-Ok-clause-run
returns-in-Ok-clause-run g c goes_on =
    let block = c.self.inside.block in
    let some : block.items ≢ [] = λ none.
    false≢true (sym c.if-is_empty.false ∙ c.is_empty.ensures ∙ eq-eqb _ 0 (block.ok.0 ∙ ap length none)) in
    let values = ap length c.as_slice-values.ensures.value ∙ ap length c.in_ok-serialize_values.ensures.ok in
    let deltas = ap length c.as_slice-deltas.ensures.value in
    rw (← c.self.view_is) (run_written (record g.T.ValueWriter.codec { goes_on = goes_on }) _ some
    (simp length-append (omega (arith, values, deltas, c.if-values-deltas.false))) c.in_ok-serialize_values.ensures.again)

pub returns-in-Ok-clause-next : goal.returns-in-Ok-clause-next
returns-in-Ok-clause-next g c = open-none g.T.ValueWriter.codec _ c.clear.ensures.items c.clear-in-Ok.ensures
