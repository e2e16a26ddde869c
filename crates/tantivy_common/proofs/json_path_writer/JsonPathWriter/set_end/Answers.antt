use Rattle.std.proofs.Common.{◌∙◌, ap, reverse, [], ◌∷◌}
use Rattle.tantivy_common.specs.Path.{is_stack, texts_before, ended}
use Rattle.tantivy_common.proofs.Paths.{is_stack-append, texts_before-append, IsUtf8-zero}
use Rattle.tantivy_common.proofs.json_path_writer.JsonPathWriter.set_end.Goals as goal

pub invariant_of-self-2 : goal.invariant_of-self-2
invariant_of-self-2 c =
    let ns = reverse c.self.inside.indices.items in
    ap (λ t. is_stack t ns) c.in_ok-push.ensures.items ∙ is_stack-append c.self.inside.path.items (0 ∷ []) ns c.self.invariant IsUtf8-zero

pub returns-clause-ok : goal.returns-clause-ok
returns-clause-ok c =
    let ns = reverse c.self.inside.indices.items in
    let before = ap (λ t. texts_before t ns) c.in_ok-push.ensures.items ∙ texts_before-append c.self.inside.path.items (0 ∷ []) ns c.self.invariant in
    (λ i. record { text = c.in_ok-push.ensures.items i; before = before i; expand_dots = c.self.inside.expand_dots }) ∙ ap ended c.self.view_is
