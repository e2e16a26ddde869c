use Rattle.std.proofs.Common.{ap, sym, ◌∙◌, refl}
use Rattle.std.specs.FinSet as set
use Rattle.document_sets.proofs.Sets as sets
use Rattle.document_sets.proofs.Shapes as shapes
use Rattle.document_sets.proofs.document_set.DocSet.intersect_with.Goals as goal
use Rattle.document_sets.proofs.document_set.DocSet.intersect_with.Goals.{in-Listed-2, in-Nothing-2}

pub returns-in-Nothing-clause-elements : goal.returns-in-Nothing-clause-elements
returns-in-Nothing-clause-elements c = shapes.nothing-intersection _ c.self.inside.members _ c.args.other.elements c.in-Nothing.is c.self.view_is

pub returns-in-Nothing-members : goal.returns-in-Nothing-members
returns-in-Nothing-members c =
    let is = sym (sets.intersection-none c.args.self.now.elements)
    ∙ ap (set.intersection c.args.self.now.elements) (shapes.nothing-is _ c.other.inside.members _ c.in-Nothing-members.is c.other.view_is) in
    elim c.match-self-2.branch [
      | in-Listed-2 w ↦ record { elements = ap (λ s. s.elements) w.self-is ∙ is; max_value = ap (λ s. s.max_value) w.self-is ∙ ap (λ s. s.max_value) c.self.view_is }
      | in-Nothing-2 w ↦ record { elements = ap (λ s. s.elements) w.self-is ∙ is; max_value = ap (λ s. s.max_value) w.self-is ∙ ap (λ s. s.max_value) c.self.view_is }
    ]

pub returns-in-Everything : goal.returns-in-Everything
returns-in-Everything c =
    let mine = (shapes.proper _ c.self.inside.members _ c.self.invariant c.self.view_is).within in
    record {
      elements =
          sym (sets.intersection-full c.args.other.max_value c.args.self.now.elements (shapes.below-same _ _ _ (sym c.requires) mine))
          ∙ ap (set.intersection c.args.self.now.elements) (shapes.everything-is _ c.other.inside.members _ c.in-Everything.is c.other.view_is);
      max_value = refl;
    }
