-- The numbers that were found are printed, or the error is told.
use Rattle.std.proofs.Common.{List, ℕ, subst}
use Rattle.std.proofs.KnownBytes.{Keeps-refl}
use Rattle.term_index.specs.Printing.{lines, PrintsText}
use Rattle.term_index.proofs.SearchLaws.{answer_search_ends, answer_searches, error_search_ends, error_searches}
use Rattle.term_index.proofs.commands.search.search.Goals as goal

pub returns-in-Ok-clause-ends : goal.returns-in-Ok-clause-ends
returns-in-Ok-clause-ends g c =
    let old = g.O.Sink.written c.args.out.now in
    let new = g.O.Sink.written c.print_numbers.new.out in
    let prints = subst (λ (ids : List ℕ). PrintsText c.print_numbers.result (lines ids) old new) c.as_slice.ensures c.print_numbers.ensures.prints in
    answer_search_ends c.args.query.now c.args.field.now c.in-Ok.answer c.print_numbers.result old new prints (g.H.FileHandle.state c.args.file.now) c.in-Ok.ensures.query c.in-Ok.ensures.told c.in-Ok.ensures.short

pub returns-in-Ok-clause-prints : goal.returns-in-Ok-clause-prints
returns-in-Ok-clause-prints g c =
    let old = g.O.Sink.written c.args.out.now in
    let new = g.O.Sink.written c.print_numbers.new.out in
    let prints = subst (λ (ids : List ℕ). PrintsText c.print_numbers.result (lines ids) old new) c.as_slice.ensures c.print_numbers.ensures.prints in
    answer_searches c.args.query.now c.args.field.now c.in-Ok.answer c.print_numbers.result old new prints (g.H.FileHandle.state c.args.file.now) c.in-Ok.ensures.query c.in-Ok.ensures.told

pub returns-in-Err-clause-ends : goal.returns-in-Err-clause-ends
returns-in-Err-clause-ends g c =
    rw c.outcome_of.ensures (error_search_ends c.args.query.now c.args.field.now (g.H.FileHandle.state c.args.file.now) c.in-Err.error c.in-Err.ensures.query c.in-Err.ensures.told c.in-Err.ensures.short)

pub returns-in-Err-clause-prints : goal.returns-in-Err-clause-prints
returns-in-Err-clause-prints g c = rw c.outcome_of.ensures (error_searches c.args.query.now c.args.field.now (g.H.FileHandle.state c.args.file.now) c.in-Err.error _ _ (Keeps-refl _))
