use Rattle.std.proofs.Common.{ap, sym, ◌∙◌}
use Rattle.std.specs.FinSet as set
use Rattle.common_bitset.specs.Numbers.{below}
use Rattle.document_sets.proofs.Sets as sets
use Rattle.document_sets.proofs.Shapes as shapes
use Rattle.document_sets.proofs.document_set.DocSet.union_with.Goals as goal
use Rattle.document_sets.proofs.document_set.DocSet.union_with.Goals.{in-Listed-1, in-Nothing-1}

pub returns-in-Nothing-clause-elements : goal.returns-in-Nothing-clause-elements
returns-in-Nothing-clause-elements c =
    sym (sets.union-none c.args.self.now.elements)
    ∙ ap (set.union c.args.self.now.elements) (shapes.nothing-is _ c.other.inside.members _ c.in-Nothing.is c.other.view_is)

pub returns-in-Everything-clause-elements : goal.returns-in-Everything-clause-elements
returns-in-Everything-clause-elements c =
    let mine = (shapes.proper _ c.self.inside.members _ c.self.invariant c.self.view_is).within in
    let full = shapes.everything-is _ c.other.inside.members _ c.in-Everything.is c.other.view_is in
    let is = ap below (ap (λ s. s.max_value) c.self.view_is ∙ sym c.requires) ∙ sym (sets.union-full c.args.other.max_value c.args.self.now.elements (shapes.below-same _ _ _ (sym c.requires) mine))
    ∙ ap (set.union c.args.self.now.elements) full in
    elim c.match-self.branch [
      | in-Listed-1 w ↦ ap (λ s. s.elements) w.self-is ∙ is
      | in-Nothing-1 w ↦ ap (λ s. s.elements) w.self-is ∙ is
    ]
