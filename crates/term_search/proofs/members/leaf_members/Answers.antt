use Rattle.std.proofs.Common.{◌∙◌, sym, ap}
use Rattle.query_tree.specs.declared.tree.UserInputLeaf.TheVariants.{Set}
use Rattle.printed_queries.specs.Satisfies.{satisfies_leaf}
use Rattle.term_search.specs.Members.{holds_any}
use Rattle.term_search.proofs.Leaf.{finds_all, finds_nothing, finds_same_ok, set_holds, set_looks_for, regex_holds, all_holds}
use Rattle.term_search.proofs.Asking.{asks_same}
use Rattle.term_search.proofs.members.leaf_members.Goals as goal

pub returns-in-All-clause-found : goal.returns-in-All-clause-found
returns-in-All-clause-found g c =
    finds_all _ _ _ _ c.full.ensures (λ doc. ap (satisfies_leaf doc c.args.default.now) c.in-All.is ∙ all_holds doc c.args.default.now)

pub returns-in-Set-clause-found : goal.returns-in-Set-clause-found
returns-in-Set-clause-found g c =
    finds_same_ok _ _ (holds_any c.field_or.result.now c.as_slice.result.now) _ _
    (λ doc. set_holds doc c.args.default.now c.field_or.result.now c.in-Set.field c.as_slice.result.now c.field_or.ensures
    ∙ ap (satisfies_leaf doc c.args.default.now) (ap (Set c.in-Set.field) c.as_slice.ensures ∙ sym c.in-Set.is))
    c.set_members.ensures.found

pub returns-in-Set-clause-asks : goal.returns-in-Set-clause-asks
returns-in-Set-clause-asks g c =
    asks_same _ _ _ _ _ _ (set_looks_for c.args.default.now c.field_or.result.now c.in-Set.field c.in-Set.elements c.as_slice.result.now c.args.leaf.now c.in-Set.is c.as_slice.ensures c.field_or.ensures) c.set_members.ensures.asks

pub returns-in-Regex-clause-found : goal.returns-in-Regex-clause-found
returns-in-Regex-clause-found g c =
    finds_nothing _ _ _ _ c.empty.ensures
    (λ doc. ap (satisfies_leaf doc c.args.default.now) c.in-Regex.is ∙ regex_holds doc c.args.default.now c.in-Regex.field c.in-Regex.pattern)
