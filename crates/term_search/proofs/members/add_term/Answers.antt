use Rattle.std.proofs.Common.{◌∙◌, ap}
use Rattle.document_sets.specs.Members.{with_numbers}
use Rattle.term_search.proofs.Found.{adds_posted, adds_none}
use Rattle.term_search.proofs.members.add_term.Goals as goal

pub returns-in_ok-extend-in-Ok-Some-clause-adds : goal.returns-in_ok-extend-in-Ok-Some-clause-adds
returns-in_ok-extend-in-Ok-Some-clause-adds g c =
    let found = (rw c.in-Ok-Some.field-0-is at c.in-Ok-Some.ensures.found) in
    adds_posted _ _ _ c.args.members.now _ _ found (c.in_ok-extend-in-Ok-Some.ensures.elements ∙ ap (with_numbers c.args.members.now.elements) c.as_slice.ensures)

pub returns-in-Ok-None-clause-adds : goal.returns-in-Ok-None-clause-adds
returns-in-Ok-None-clause-adds g c =
    let found = (rw c.in-Ok-None.field-0-is at c.in-Ok-None.ensures.found) in adds_none _ _ _ _ found
