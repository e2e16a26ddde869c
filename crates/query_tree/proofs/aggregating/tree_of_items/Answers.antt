use Rattle.std.proofs.Common.{◌≡◌, ◌∙◌, ap, subst}
use Rattle.std.specs.Prelude.{IfOk}
use Rattle.query_tree.specs.declared.tree.UserInputAst.{UserInputAst}
use Rattle.query_tree.specs.Aggregation.{first_pair, default_mark}
use Rattle.query_tree.specs.Groups.{clause_of}
use Rattle.query_tree.proofs.Grouping.{several_items}
use Rattle.query_tree.proofs.aggregating.tree_of_items.Goals as goal

pub returns : goal.returns
returns c =
    let P : UserInputAst → Type 0 = λ v. IfOk c.clause_of.result (λ t. t ≡ v) in
    subst P
    (ap (clause_of c.in_ok-group.group.items) c.in_ok-group.ensures.pairs
    ∙ several_items c.args.first c.args.others c.in_ok-groups.groups c.in_ok-pair.pair c.in_ok-group.group.items c.requires.others c.in_ok-groups.ensures
    (c.in_ok-pair.ensures ∙ ap (λ d. first_pair c.args.first.mark d c.args.first.tree) c.default_mark-default.ensures
    ∙ ap (λ y. first_pair c.args.first.mark (default_mark c.args.first.operand y) c.args.first.tree) c.requires.second)
    c.in_ok-group.ensures.group)
    c.clause_of.ensures
