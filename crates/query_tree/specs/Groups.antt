-- How the code holds the groups of the later items: last first.
use Rattle.std.specs.Prelude.{◌≡◌, List, [], ◌∷◌, ◌++◌, map, reverse, Result, OnOk}
use Rattle.query_tree.specs.declared.aggregating.Groups.{Groups}
use Rattle.query_tree.specs.declared.tree.UserInputAst.{UserInputAst}
use Rattle.query_tree.specs.declared.tree.UserInputAst.TheVariants.{Clause}
use Rattle.query_tree.specs.Aggregation.{Pair, Grouped, pair_of_group}

pub record HoldsGroups (held : Groups) (later : Grouped) : Type 0 where
  pub joining : held.joining.items ≡ reverse later.joining
  pub pairs : held.pairs.items ≡ reverse (map pair_of_group later.groups)

-- Where the groups of the later items were held, those that this step makes of them are, unless memory ran out.
abbrev pub Adds : {E : Type 0} → (Grouped → Grouped) → Groups → Groups → Result (Unit {0}) E → Type 0
Adds step old new result = (later : Grouped) → HoldsGroups old later → OnOk result (HoldsGroups new (step later))

-- the clause of the first group and of the pairs of the later ones, last first
abbrev pub clause_of : List Pair → List Pair → UserInputAst
clause_of group [] = Clause group
clause_of group (pair ∷ pairs) = Clause (reverse ((pair ∷ pairs) ++ pair_of_group group ∷ []))
