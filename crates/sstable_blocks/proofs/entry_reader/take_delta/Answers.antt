use Rattle.std.proofs.Common.{◌+◌, ◌∙◌, ap, sym, refl, arith, length-drop}
use Rattle.sstable_blocks.specs.BlockReader.{State}
use Rattle.sstable_blocks.proofs.DeltaLaws.{delta-no_lens, delta-cut}
use Rattle.sstable_blocks.proofs.ReaderLaws.{takes_delta}
use Rattle.sstable_blocks.proofs.entry_reader.take_delta.Goals as goal

pub returns-in_default-clause-err : goal.returns-in_default-clause-err
returns-in_default-clause-err c = (refl, delta-no_lens _ (rw c.buffer-buffer.ensures at c.in_default.ensures.none))

pub returns-then-add-buffer-clause-err : goal.returns-then-add-buffer-clause-err
returns-then-add-buffer-clause-err c =
    let found = rw c.buffer-buffer.ensures at c.in-Some.ensures.found in
    let short = simp length-drop at (rw c.buffer-buffer.ensures at c.if-add-buffer.true) in
    (refl, delta-cut _ _ _ _ found (simp length-drop (omega (arith, short))))

pub returns-clause-ok : goal.returns-clause-ok
returns-clause-ok c =
    let found = rw c.buffer-buffer.ensures at c.in-Some.ensures.found in
    let within = rw c.buffer-buffer.ensures at c.in-Some.ensures.within in
    let enough = rw c.buffer-buffer.ensures at c.if-add-buffer.false in
    let is_begin = c.offset-begin.ensures.value ∙ ap (λ (s : State). s.offset) c.advance.ensures in
    let is_end = c.offset.ensures.value ∙ ap (λ (s : State). s.offset) c.advance-2.ensures ∙ ap (λ n. n + c.in-Some.add) (sym c.offset-begin.ensures.value) in
    let is_new = c.advance-2.ensures ∙ ap (λ (s : State). record s { offset = s.offset + c.in-Some.add }) c.advance.ensures
    ∙ ap (λ n. record c.args.blocks.now { offset = n }) (ap (λ n. n + c.in-Some.add) (sym is_begin) ∙ sym is_end) in
    takes_delta c.args.blocks.now c.advance-2.new.self c.in-Some.keep c.in-Some.add c.in-Some.len c.offset-begin.result c.offset.result found within.0 within.1 enough is_begin is_end is_new
