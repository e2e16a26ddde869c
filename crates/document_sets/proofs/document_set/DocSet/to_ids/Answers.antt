use Rattle.std.proofs.Common.{ap, sym, ◌∙◌}
use Rattle.common_bitset.specs.Numbers.{rising}
use Rattle.common_bitset.specs.Laws.Sets.{rising_empty}
use Rattle.document_sets.proofs.Shapes as shapes
use Rattle.document_sets.proofs.document_set.DocSet.to_ids.Goals as goal

pub returns-in-Nothing : goal.returns-in-Nothing
returns-in-Nothing c =
    c.new.ensures ∙ sym (rising_empty c.args.self.now.max_value)
    ∙ ap (λ s. rising c.args.self.now.max_value s) (shapes.nothing-is _ c.self.inside.members _ c.in-Nothing.is c.self.view_is)
