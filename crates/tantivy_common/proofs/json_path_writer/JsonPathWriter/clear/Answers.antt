use Rattle.std.proofs.Common.{◌∙◌, reverse}
use Rattle.tantivy_common.specs.Path.{is_stack}
use Rattle.tantivy_common.proofs.Paths.{is_stack_nil}
use Rattle.tantivy_common.proofs.json_path_writer.JsonPathWriter.clear.Goals as goal

pub invariant_of-self : goal.invariant_of-self
invariant_of-self c = (λ i. is_stack (c.clear.ensures.items i) (reverse (c.clear-2.ensures.items i))) ∙ is_stack_nil
