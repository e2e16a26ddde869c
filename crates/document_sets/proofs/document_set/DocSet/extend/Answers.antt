use Rattle.std.proofs.Common.{ap, sym, ◌∙◌, subst, ◌<◌, All}
use Rattle.std.specs.FinSet as set
use Rattle.document_sets.proofs.Sets as sets
use Rattle.document_sets.proofs.Shapes as shapes
use Rattle.document_sets.proofs.document_set.DocSet.extend.Goals as goal

pub returns-then-is_empty-clause-elements : goal.returns-then-is_empty-clause-elements
returns-then-is_empty-clause-elements c = sets.with-empty c.args.self.now.elements c.args.numbers.now c.if-is_empty.ensures

pub invariant_of-self-in_ok-bits-in-Nothing-2 : goal.invariant_of-self-in_ok-bits-in-Nothing-2
invariant_of-self-in_ok-bits-in-Nothing-2 c =
    let low = subst (λ n. All (λ number. number < n) c.args.numbers.now) (sym (ap (λ s. s.max_value) c.self.view_is)) c.requires in
    shapes.fresh-within _ _ c.insert_all.new.bits c.args.numbers.now (shapes.nothing-small _ c.self.inside.members c.self.invariant) c.in_ok-bits-in-Nothing.ensures low
    c.insert_all.ensures.max_value c.insert_all.ensures.elements

pub invariant_of-self-in-Listed : goal.invariant_of-self-in-Listed
invariant_of-self-in-Listed c =
    let low = subst (λ n. All (λ number. number < n) c.args.numbers.now) (sym (ap (λ s. s.max_value) c.self.view_is)) c.requires in
    shapes.with-within _ c.self.inside.members _ c.insert_all-in-Listed.new.bits c.args.numbers.now c.self.invariant c.in-Listed.is low
    c.insert_all-in-Listed.ensures.max_value c.insert_all-in-Listed.ensures.elements

pub returns-in-Everything-clause-elements : goal.returns-in-Everything-clause-elements
returns-in-Everything-clause-elements c =
    ap (λ s. s.elements) c.self.view_is
    ∙ shapes.everything-union _ c.self.inside.members _ (set.from_list c.args.numbers.now) c.in-Everything.is c.self.view_is (sets.IsBelow-from_list _ c.args.numbers.now c.requires)
