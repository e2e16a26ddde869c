use Rattle.std.proofs.Common.{◌≡◌, ◌∙◌, ap, not, [], ◌∷◌, ◌++◌, length, ◌==◌, cond}
use Rattle.tantivy_common.specs.Path.{pushed, popped}
use Rattle.tantivy_common.proofs.Paths.{push_keeps, push_before, push_text, ok_unless_err}
use Rattle.tantivy_common.proofs.json_path_writer.JsonPathWriter.push.Goals as goal

stacked : (c : goal.Else-is_err) → c.push.new.self.items ≡ c.self.inside.indices.items ++ length c.self.inside.path.items ∷ []
stacked c =
    c.push.ensures.items
    ∙ ap (λ b. cond b (c.self.inside.indices.items ++ c.len-start.result ∷ []) c.self.inside.indices.items) (ok_unless_err c.push.result c.if-is_err.ensures.value)
    ∙ ap (λ n. c.self.inside.indices.items ++ n ∷ []) (c.len-start.ensures ∙ c.self.inside.path.ok.0)

apart : (c : goal.Else-is_err) → not c.is_empty-separated.result ≡ not (length c.self.inside.indices.items == 0)
apart c = ap not (c.is_empty-separated.ensures ∙ ap (λ n. n == 0) c.self.inside.indices.ok.0)

pub invariant_of-self-else-is_err : goal.invariant_of-self-else-is_err
invariant_of-self-else-is_err c =
    push_keeps c.self.inside.path.items c.self.inside.indices.items c.append.new.path.items c.push.new.self.items c.args.segment.now (not c.is_empty-separated.result) c.self.inside.expand_dots
    c.self.invariant c.utf8.segment (apart c) c.in_ok-append.ensures.ok (stacked c)

pub returns-clause-ok : goal.returns-clause-ok
returns-clause-ok c =
    let text =
    push_text c.self.inside.path.items c.self.inside.indices.items c.append.new.path.items c.push.new.self.items c.args.segment.now (not c.is_empty-separated.result) c.self.inside.expand_dots
    c.self.invariant c.utf8.segment (apart c) c.in_ok-append.ensures.ok (stacked c) in
    let before =
    push_before c.self.inside.path.items c.self.inside.indices.items c.append.new.path.items c.push.new.self.items c.args.segment.now (not c.is_empty-separated.result) c.self.inside.expand_dots
    c.self.invariant c.utf8.segment (apart c) c.in_ok-append.ensures.ok (stacked c) in
    (λ i. record { text = text i; before = before i; expand_dots = c.self.inside.expand_dots }) ∙ ap (λ p. pushed p c.args.segment.now) c.self.view_is

pub returns-clause-undone : goal.returns-clause-undone
returns-clause-undone c = ap popped (returns-clause-ok c)
