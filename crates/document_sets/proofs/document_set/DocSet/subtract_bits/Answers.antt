use Rattle.std.proofs.Common.{ap, ◌∙◌}
use Rattle.std.specs.FinSet.{intersection, difference}
use Rattle.common_bitset.specs.Numbers.{below}
use Rattle.document_sets.proofs.Sets as sets
use Rattle.document_sets.proofs.Shapes as shapes
use Rattle.document_sets.proofs.document_set.DocSet.subtract_bits.Goals as goal

pub intersect_with_bits-requires-clause-within : goal.intersect_with_bits-requires-clause-within
intersect_with_bits-requires-clause-within c =
    shapes.complement-proper c.args.bits c.complement.new.self c.requires.within c.complement.ensures.max_value c.complement.ensures.elements

pub returns-clause-elements : goal.returns-clause-elements
returns-clause-elements c =
    c.intersect_with_bits.ensures.elements
    ∙ ap (intersection c.args.self.now.elements) (c.complement.ensures.elements ∙ ap (λ n. difference (below n) c.args.bits.elements) c.requires.bound)
    ∙ sets.intersection-complement c.args.self.now.max_value c.args.self.now.elements c.args.bits.elements c.intersect_with_bits.ensures.proper.within
