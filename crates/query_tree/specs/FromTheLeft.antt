-- One tree of a list of items, taken from the left: each item's pair goes into the last group, or begins a new one.
use Rattle.std.specs.Prelude.{◌≡◌, List, [], ◌∷◌, ◌++◌, Option, Some, None}
use Rattle.query_tree.specs.declared.tree.Occur.TheVariants.{Must}
use Rattle.query_tree.specs.declared.tree.UserInputAst.{UserInputAst}
use Rattle.query_tree.specs.declared.item.Operand.{Operand}
use Rattle.query_tree.specs.declared.item.Operand.TheVariants.{And, Or}
use Rattle.query_tree.specs.declared.item.Item.{Item}
use Rattle.query_tree.specs.Aggregation.{Pair, mark_or, default_mark, first_pair, operand_after, tree_of_groups, lone, aggregated}

-- the groups, with one pair more in the last
abbrev pub with_last : Pair → List (List Pair) → List (List Pair)
with_last pair [] = (pair ∷ []) ∷ []
with_last pair (group ∷ []) = (group ++ pair ∷ []) ∷ []
with_last pair (group ∷ next ∷ groups) = group ∷ with_last pair (next ∷ groups)

-- the pair of an item that begins a group, before this operand
abbrev pub beginning_pair : Item → Option Operand → Pair
beginning_pair item after = first_pair item.mark (default_mark item.operand after) item.tree

-- An item after AND adds one pair to the last group, and every other one begins a new group.
abbrev pub added_by : Option Operand → Item → Option Operand → List (List Pair) → List (List Pair)
added_by (Some And) item after groups = with_last (mark_or item.mark (Some Must), item.tree) groups
added_by (Some Or) item after groups = groups ++ (beginning_pair item after ∷ []) ∷ []
added_by None item after groups = groups ++ (beginning_pair item after ∷ []) ∷ []

-- the groups, with these items added one after another
abbrev pub groups_from_left : List (List Pair) → List Item → List (List Pair)
groups_from_left groups [] = groups
groups_from_left groups (item ∷ more) = groups_from_left (added_by item.operand item (operand_after more) groups) more

-- a lone item's tree, and else that of the groups which the first item begins
abbrev pub aggregated_from_left : Item → List Item → UserInputAst
aggregated_from_left first [] = lone first.mark first.tree
aggregated_from_left first (second ∷ more) =
    tree_of_groups (groups_from_left ((beginning_pair first (operand_after (second ∷ more)) ∷ []) ∷ []) (second ∷ more))

-- taken from the right, the items give the same tree
abbrev pub AggregatesFromTheLeft : Type 0
AggregatesFromTheLeft = (first : Item) (others : List Item) → aggregated first others ≡ aggregated_from_left first others
