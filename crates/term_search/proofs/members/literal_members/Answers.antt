use Rattle.std.proofs.Common.{◌≡◌, ◌∙◌, ap, arith}
use Rattle.documents.specs.Documents.{holds}
use Rattle.term_search.specs.Members.{holds_term}
use Rattle.term_search.proofs.Leaf.{finds_nothing, finds_same, slop_holds, literal_holds, literal_looks_for}
use Rattle.term_search.proofs.Asking.{asks_same}
use Rattle.term_search.proofs.members.literal_members.Goals as goal

pub returns-then-literal-gt0-clause-found : goal.returns-then-literal-gt0-clause-found
returns-then-literal-gt0-clause-found g c =
    finds_nothing _ _ _ _ c.no_documents.ensures (λ doc. slop_holds doc c.args.default.now c.args.literal.now c.if-literal-gt0.true)

pub returns-in-Ok-clause-found : goal.returns-in-Ok-clause-found
returns-in-Ok-clause-found g c =
    finds_same _ _ (holds_term c.field_or-field.result.now c.as_str.result.now) _ _
    (λ doc. ap (λ f. holds doc f c.as_str.result.now) c.field_or-field.ensures ∙ ap (holds doc _) c.as_str.ensures
    ∙ literal_holds doc c.args.default.now c.args.literal.now (let none : c.args.literal.now.slop ≡ 0 = omega (arith, c.if-literal-gt0.false) in none) c.if-literal.false)
    c.in-Ok.ensures.found

pub returns-in-Ok-clause-asks : goal.returns-in-Ok-clause-asks
returns-in-Ok-clause-asks g c =
    asks_same _ _ _ _ _ _ (literal_looks_for c.args.default.now c.field_or-field.result.now c.as_str.result.now c.args.literal.now c.field_or-field.ensures c.as_str.ensures
    (let none : c.args.literal.now.slop ≡ 0 = omega (arith, c.if-literal-gt0.false) in none) c.if-literal.false) c.in-Ok.ensures.asks

pub returns-in-Err-clause-asks : goal.returns-in-Err-clause-asks
returns-in-Err-clause-asks g c =
    asks_same _ _ _ _ _ _ (literal_looks_for c.args.default.now c.field_or-field.result.now c.as_str.result.now c.args.literal.now c.field_or-field.ensures c.as_str.ensures
    (let none : c.args.literal.now.slop ≡ 0 = omega (arith, c.if-literal-gt0.false) in none) c.if-literal.false) c.in-Err.ensures.asks
