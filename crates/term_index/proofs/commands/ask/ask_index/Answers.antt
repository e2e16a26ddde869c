-- The file in memory is the index that was written.
use Rattle.std.proofs.Common.{List, ℕ, Some, ap}
use Rattle.owned_bytes.specs.InMemory.{of_counted}
use Rattle.term_index.proofs.AskLaws.{ends_over_file, answers_over_file}
use Rattle.term_index.proofs.commands.ask.ask_index.Goals as goal

pub returns-clause-ends : goal.returns-clause-ends
returns-clause-ends g c = λ docs written.
    ends_over_file c.args.query.now c.args.field.now c.args.file docs written (of_counted c.new-file.result) c.search.result (ap (λ (bytes : List ℕ). Some bytes) c.new-file.ensures.contents) c.search.ensures.file.cause c.search.ensures.ends

pub returns-clause-prints : goal.returns-clause-prints
returns-clause-prints g c = λ docs written.
    answers_over_file c.args.query.now c.args.field.now c.args.file docs written (of_counted c.new-file.result) c.search.result _ _ (ap (λ (bytes : List ℕ). Some bytes) c.new-file.ensures.contents) c.search.ensures.prints
