use Rattle.std.proofs.Common.{sym, ◌∙◌}
use Rattle.common_bitset.specs.Laws.WordSets.{zero_test}
use Rattle.common_bitset.proofs.tinyset.TinySet.is_empty.Goals as goal

pub returns : goal.returns
returns c =
    let test = zero_test c.self.inside.0 c.self.invariant in
    (λ h. sym c.self.view_is ∙ test.0 h, λ h. test.1 (c.self.view_is ∙ h))
