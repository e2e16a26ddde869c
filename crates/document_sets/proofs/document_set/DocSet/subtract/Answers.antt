use Rattle.std.proofs.Common.{ap, sym, ◌∙◌}
use Rattle.std.specs.FinSet as set
use Rattle.common_bitset.specs.Laws.Sets.{difference-empty}
use Rattle.document_sets.proofs.Sets as sets
use Rattle.document_sets.proofs.Shapes as shapes
use Rattle.document_sets.proofs.document_set.DocSet.subtract.Goals as goal
use Rattle.document_sets.proofs.document_set.DocSet.subtract.Goals.{in-Listed-1, in-Nothing-1}

pub returns-in-Nothing-clause-elements : goal.returns-in-Nothing-clause-elements
returns-in-Nothing-clause-elements c =
    sym (difference-empty c.args.self.now.elements)
    ∙ ap (set.difference c.args.self.now.elements) (shapes.nothing-is _ c.other.inside.members _ c.in-Nothing.is c.other.view_is)

pub returns-in-Everything-clause-elements : goal.returns-in-Everything-clause-elements
returns-in-Everything-clause-elements c =
    let mine = (shapes.proper _ c.self.inside.members _ c.self.invariant c.self.view_is).within in
    let is = sym (sets.difference-full c.args.other.max_value c.args.self.now.elements (shapes.below-same _ _ _ (sym c.requires) mine))
    ∙ ap (set.difference c.args.self.now.elements) (shapes.everything-is _ c.other.inside.members _ c.in-Everything.is c.other.view_is) in
    elim c.match-self.branch [
      | in-Listed-1 w ↦ ap (λ s. s.elements) w.self-is ∙ is
      | in-Nothing-1 w ↦ ap (λ s. s.elements) w.self-is ∙ is
    ]
