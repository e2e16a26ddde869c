use Rattle.std.proofs.Common.{◌<◌, refl, sym, ap, ◌∙◌, subst, true≢false, arith}
use Rattle.std.proofs.lemmas.Bool.{eqb-true}
use Rattle.std.specs.Int.{w64, trailing_zeros}
use Rattle.std.specs.FinSet.{remove}
use Rattle.common_bitset.specs.Numbers.{IsLeast}
use Rattle.common_bitset.specs.Words.{elements_of}
use Rattle.common_bitset.specs.Laws.WordSets.{elements-zero, zero_test, least_is, elements-without_least}
use Rattle.common_bitset.proofs.tinyset.TinySet.pop_lowest.Goals as goal

pub returns-then-self-eq0-clause-none : goal.returns-then-self-eq0-clause-none
returns-then-self-eq0-clause-none c = (λ _. sym c.self.view_is ∙ ap elements_of c.if-self-eq0.true ∙ elements-zero, λ _. refl)

pub returns-clause-none : goal.returns-clause-none
returns-clause-none c =
    (λ e. absurd (true≢false e), λ h. absurd (c.if-self-eq0.false (eqb-true c.self.inside.0 0 ((zero_test c.self.inside.0 c.self.invariant).1 (c.self.view_is ∙ h)))))

pub returns-clause-least : goal.returns-clause-least
returns-clause-least c =
    let some : 0 < c.self.inside.0 = omega arith in
    subst (IsLeast _) c.self.view_is (least_is c.self.inside.0 some c.self.invariant)

pub returns-clause-after : goal.returns-clause-after
returns-clause-after c =
    let some : 0 < c.self.inside.0 = omega arith in
    elements-without_least c.self.inside.0 some c.self.invariant ∙ ap (λ s. remove s (trailing_zeros w64 c.self.inside.0)) c.self.view_is
