use Rattle.std.proofs.Common.{ap, ◌∙◌}
use Rattle.std.specs.FinSet as set
use Rattle.document_sets.specs.Members.{with_numbers}
use Rattle.document_sets.proofs.Sets as sets
use Rattle.document_sets.proofs.Shapes as shapes
use Rattle.document_sets.proofs.document_set.DocSet.from_numbers.Goals as goal

pub returns : goal.returns
returns c =
    shapes.same_parts _ _ _
    (c.in_ok-extend.ensures.elements ∙ ap (λ s. with_numbers s.elements c.args.numbers.now) c.empty-made.ensures ∙ sets.none-union (set.from_list c.args.numbers.now))
    (c.extend.ensures.max_value ∙ ap (λ s. s.max_value) c.empty-made.ensures)
