use Rattle.std.proofs.Common.{ap, sym, ◌∙◌}
use Rattle.std.specs.Prelude.{is_some, unwrap_or, if◌then◌else◌}
use Rattle.std.specs.FinSet.{empty, difference}
use Rattle.common_bitset.specs.Numbers.{below}
use Rattle.common_bitset.specs.Laws.Sets.{difference-empty}
use Rattle.document_sets.specs.Joined.{elements_in}
use Rattle.document_sets.proofs.joined.others.Goals as goal

pub returns-in-None-clause-elements : goal.returns-in-None-clause-elements
returns-in-None-clause-elements c =
    ap (λ s. s.elements) c.empty.ensures ∙ sym (difference-empty empty)
    ∙ ap (λ x. difference (if is_some (elements_in x) then below c.args.documents else empty) (unwrap_or (elements_in x) empty)) (sym c.in-None.is)
