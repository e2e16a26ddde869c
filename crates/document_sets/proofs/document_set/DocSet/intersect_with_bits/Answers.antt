use Rattle.std.proofs.Common.{ap, ◌∙◌}
use Rattle.document_sets.proofs.Shapes as shapes
use Rattle.document_sets.proofs.document_set.DocSet.intersect_with_bits.Goals as goal
use Rattle.document_sets.proofs.document_set.DocSet.intersect_with_bits.Goals.{in-Listed-1, in-Nothing-1}

pub invariant_of-self-in-Listed-self : goal.invariant_of-self-in-Listed-self
invariant_of-self-in-Listed-self c =
    shapes.intersection-within _ c.self.inside.members _ c.args.bits c.intersect_with.new.self c.self.invariant c.in-Listed.is c.intersect_with.ensures.max_value c.intersect_with.ensures.elements

pub returns-in-Nothing-clause-elements : goal.returns-in-Nothing-clause-elements
returns-in-Nothing-clause-elements c =
    ap (λ s. s.elements) c.self.view_is ∙ shapes.nothing-intersection _ c.self.inside.members _ c.args.bits.elements c.in-Nothing.is c.self.view_is

pub returns-in-Nothing-clause-proper : goal.returns-in-Nothing-clause-proper
returns-in-Nothing-clause-proper c = shapes.proper _ c.self.inside.members _ c.self.invariant c.self.view_is

pub returns-in-Everything-clause-elements : goal.returns-in-Everything-clause-elements
returns-in-Everything-clause-elements c =
    let low = shapes.below-same _ _ c.args.bits.elements c.requires.bound c.requires.within.within in
    let is = shapes.everything-intersection _ c.self.inside.members _ c.args.bits.elements c.in-Everything.is c.self.view_is low in
    elim c.match-self-2.branch [
      | in-Listed-1 w ↦ ap (λ s. s.elements) w.self-is ∙ is
      | in-Nothing-1 w ↦ ap (λ s. s.elements) w.self-is ∙ is
    ]

pub returns-in-Everything-clause-proper : goal.returns-in-Everything-clause-proper
returns-in-Everything-clause-proper c = shapes.proper _ c.self.inside.members _ c.self.invariant c.self.view_is

pub returns-in-Listed-clause-proper : goal.returns-in-Listed-clause-proper
returns-in-Listed-clause-proper c = shapes.proper _ c.self.inside.members _ c.self.invariant c.self.view_is
