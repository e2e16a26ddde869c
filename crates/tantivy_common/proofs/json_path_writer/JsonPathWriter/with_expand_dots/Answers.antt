use Rattle.std.proofs.Common.{◌∙◌, reverse}
use Rattle.tantivy_common.specs.Path.{is_stack}
use Rattle.tantivy_common.proofs.Paths.{is_stack_nil}
use Rattle.tantivy_common.proofs.json_path_writer.JsonPathWriter.with_expand_dots.Goals as goal

pub invariant_of-result : goal.invariant_of-result
invariant_of-result c = (λ i. is_stack (c.new.ensures.items i) (reverse (c.new-2.ensures.items i))) ∙ is_stack_nil
