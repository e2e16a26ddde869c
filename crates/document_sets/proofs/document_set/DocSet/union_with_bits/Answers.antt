use Rattle.std.proofs.Common.{ap, sym, ◌∙◌}
use Rattle.document_sets.proofs.Shapes as shapes
use Rattle.document_sets.proofs.document_set.DocSet.union_with_bits.Goals as goal
use Rattle.document_sets.proofs.document_set.DocSet.union_with_bits.Goals.{in-Listed-1, in-Nothing-1}

pub invariant_of-self-in-Listed-self : goal.invariant_of-self-in-Listed-self
invariant_of-self-in-Listed-self c =
    let low = shapes.below-same _ _ c.args.bits.elements (c.requires.bound ∙ sym (ap (λ s. s.max_value) c.self.view_is)) c.requires.within.within in
    shapes.union-within _ c.self.inside.members _ c.args.bits c.union_with.new.self c.self.invariant c.in-Listed.is low c.union_with.ensures.max_value c.union_with.ensures.elements

pub returns-in-Nothing-clause-elements : goal.returns-in-Nothing-clause-elements
returns-in-Nothing-clause-elements c =
    let is = shapes.nothing-union _ c.self.inside.members _ c.args.bits.elements c.in-Nothing.is c.self.view_is in
    elim c.match-self-2.branch [
      | in-Listed-1 w ↦ ap (λ s. s.elements) w.self-is ∙ is
      | in-Nothing-1 w ↦ ap (λ s. s.elements) w.self-is ∙ is
    ]

pub returns-in-Everything-clause-elements : goal.returns-in-Everything-clause-elements
returns-in-Everything-clause-elements c =
    let low = shapes.below-same _ _ c.args.bits.elements c.requires.bound c.requires.within.within in
    ap (λ s. s.elements) c.self.view_is ∙ shapes.everything-union _ c.self.inside.members _ c.args.bits.elements c.in-Everything.is c.self.view_is low
