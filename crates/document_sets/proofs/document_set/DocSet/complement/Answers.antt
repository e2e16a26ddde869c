use Rattle.std.proofs.Common.{ap, sym, ◌∙◌}
use Rattle.std.specs.FinSet as set
use Rattle.common_bitset.specs.Numbers.{below}
use Rattle.common_bitset.specs.Laws.Sets.{difference-empty}
use Rattle.document_sets.proofs.Sets as sets
use Rattle.document_sets.proofs.Shapes as shapes
use Rattle.document_sets.proofs.document_set.DocSet.complement.Goals as goal
use Rattle.document_sets.proofs.document_set.DocSet.complement.Goals.{in-Listed-1, in-Nothing-1, in-Listed-2, in-Nothing-2}

pub invariant_of-self-in-Listed : goal.invariant_of-self-in-Listed
invariant_of-self-in-Listed c =
    shapes.complement-within _ c.self.inside.members _ c.complement.new.self c.self.invariant c.in-Listed.is c.complement.ensures.max_value c.complement.ensures.elements

pub returns-in-Nothing-clause-elements : goal.returns-in-Nothing-clause-elements
returns-in-Nothing-clause-elements c =
    let from = ap (λ s. s.max_value) c.self.view_is in
    let is = ap below from ∙ sym (difference-empty (below c.args.self.now.max_value))
    ∙ ap (set.difference (below c.args.self.now.max_value)) (shapes.nothing-is _ c.self.inside.members _ c.in-Nothing.is c.self.view_is) in
    elim c.match-self-2.branch [
      | in-Listed-1 w ↦ ap (λ s. s.elements) w.self-is ∙ is
      | in-Nothing-1 w ↦ ap (λ s. s.elements) w.self-is ∙ is
    ]

pub returns-in-Everything-clause-elements : goal.returns-in-Everything-clause-elements
returns-in-Everything-clause-elements c =
    let is = sym (sets.full-difference c.args.self.now.max_value)
    ∙ ap (set.difference (below c.args.self.now.max_value)) (shapes.everything-is _ c.self.inside.members _ c.in-Everything.is c.self.view_is) in
    elim c.match-self-3.branch [
      | in-Listed-2 w ↦ ap (λ s. s.elements) w.self-is ∙ is
      | in-Nothing-2 w ↦ ap (λ s. s.elements) w.self-is ∙ is
    ]
