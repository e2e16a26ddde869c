use Rattle.std.proofs.Common.{ap, sym, ◌∙◌}
use Rattle.std.specs.FinSet as set
use Rattle.std.proofs.lemmas.Bool.{lt-ltb}
use Rattle.common_bitset.specs.Laws.Sets.{contains_empty, contains_below}
use Rattle.document_sets.proofs.Shapes as shapes
use Rattle.document_sets.proofs.document_set.DocSet.contains.Goals as goal

pub returns-in-Nothing : goal.returns-in-Nothing
returns-in-Nothing c =
    sym (contains_empty c.args.document)
    ∙ ap (λ s. set.contains s c.args.document) (shapes.nothing-is _ c.self.inside.members _ c.in-Nothing.is c.self.view_is)

pub returns-in-Everything : goal.returns-in-Everything
returns-in-Everything c =
    sym (contains_below _ c.args.document ∙ lt-ltb c.args.document _ c.requires)
    ∙ ap (λ s. set.contains s c.args.document) (shapes.everything-is _ c.self.inside.members _ c.in-Everything.is c.self.view_is)
