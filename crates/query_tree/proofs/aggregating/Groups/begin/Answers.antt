use Rattle.std.proofs.Common.{◌∙◌, ap, [], ◌∷◌, ◌++◌}
use Rattle.query_tree.specs.Aggregation.{first_pair}
use Rattle.query_tree.proofs.Grouping.{begin_holds}
use Rattle.query_tree.proofs.aggregating.Groups.begin.Goals as goal

pub returns : goal.returns
returns c = λ later h. begin_holds c.args.self.now _ later c.args.item c.args.after c.in_ok-pair.pair c.in_ok-group.group.items h
    (c.in_ok-pair.ensures ∙ ap (λ d. first_pair c.args.item.mark d c.args.item.tree) c.default_mark-default.ensures)
    c.in_ok-group.ensures.group c.in_ok-group.ensures.joining
    (c.in_ok-push.ensures.items ∙ ap (λ xs. xs ++ c.pair_of_group.result ∷ []) c.in_ok-group.ensures.pairs ∙ ap (λ x. c.args.self.now.pairs.items ++ x ∷ []) c.pair_of_group.ensures)
