use Rattle.std.proofs.Common.{ap, sym, ◌∙◌}
use Rattle.std.specs.Prelude.{unwrap_or}
use Rattle.std.specs.FinSet.{empty, difference}
use Rattle.common_bitset.specs.Laws.Sets.{difference-empty}
use Rattle.document_sets.specs.Joined.{elements_in}
use Rattle.document_sets.proofs.joined.without.Goals as goal

pub returns-in-None-clause-elements : goal.returns-in-None-clause-elements
returns-in-None-clause-elements c =
    sym (difference-empty c.args.chosen.elements)
    ∙ ap (λ x. difference c.args.chosen.elements (unwrap_or (elements_in x) empty)) (sym c.in-None.is)
