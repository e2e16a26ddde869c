-- One tree of a list of items.
-- The items are taken from the right: each item's pair is put in front of what the later items gave. `FromTheLeft` has the same from the left.
use Rattle.std.specs.Prelude.{List, [], ◌∷◌, map, Option, Some, None}
use Rattle.query_tree.specs.declared.tree.Occur.{Occur}
use Rattle.query_tree.specs.declared.tree.Occur.TheVariants.{Should, Must, MustNot}
use Rattle.query_tree.specs.declared.tree.UserInputAst.{UserInputAst}
use Rattle.query_tree.specs.declared.tree.UserInputAst.TheVariants.{Clause}
use Rattle.query_tree.specs.declared.item.Operand.{Operand}
use Rattle.query_tree.specs.declared.item.Operand.TheVariants.{And, Or}
use Rattle.query_tree.specs.declared.item.Item.{Item}

abbrev pub Pair : Type 0
Pair = Option Occur × UserInputAst

abbrev pub mark_or : Option Occur → Option Occur → Option Occur
mark_or (Some mark) default = Some mark
mark_or None default = default

-- The default mark of an item that begins a group, by the operands before and after it: Must where AND follows, else Should where OR precedes or follows, else none.
unfoldable pub default_mark : Option Operand → Option Operand → Option Occur
default_mark before (Some And) = Some Must
default_mark before (Some Or) = Some Should
default_mark (Some Or) None = Some Should
default_mark before None = None

-- a clause of one tree that must not hold
abbrev pub negated : UserInputAst → UserInputAst
negated tree = Clause ((Some MustNot, tree) ∷ [])

-- The pair of an item that begins a group. MustNot under Should is a clause of its own.
unfoldable pub first_pair : Option Occur → Option Occur → UserInputAst → Pair
first_pair (Some MustNot) (Some Should) tree = (Some Should, negated tree)
first_pair mark default tree = (mark_or mark default, tree)

abbrev pub operand_after : List Item → Option Operand
operand_after [] = None
operand_after (item ∷ more) = item.operand

-- the pairs that join the group before, and the groups that begin
pub record Grouped : Type 0 where
  pub joining : List Pair
  pub groups : List (List Pair)

abbrev pub beginning : Item → Option Operand → Grouped → Grouped
beginning item after later =
    record { joining = []; groups = (first_pair item.mark (default_mark item.operand after) item.tree ∷ later.joining) ∷ later.groups }

-- An item after AND joins the group before it, and every other one begins a group.
abbrev pub grouped_by : Option Operand → Item → Option Operand → Grouped → Grouped
grouped_by (Some And) item after later = record { joining = (mark_or item.mark (Some Must), item.tree) ∷ later.joining; groups = later.groups }
grouped_by (Some Or) item after later = beginning item after later
grouped_by None item after later = beginning item after later

unfoldable pub grouped : List Item → Grouped
grouped [] = record { joining = []; groups = [] }
grouped (item ∷ more) = grouped_by item.operand item (operand_after more) (grouped more)

-- a group of one pair gives that pair
unfoldable pub pair_of_group : List Pair → Pair
pair_of_group (pair ∷ []) = pair
pair_of_group group = (Some Should, Clause group)

unfoldable pub tree_of_groups : List (List Pair) → UserInputAst
tree_of_groups (group ∷ []) = Clause group
tree_of_groups groups = Clause (map pair_of_group groups)

-- a lone item
unfoldable pub lone : Option Occur → UserInputAst → UserInputAst
lone (Some MustNot) tree = negated tree
lone _ tree = tree

unfoldable pub aggregated : Item → List Item → UserInputAst
aggregated first [] = lone first.mark first.tree
aggregated first (second ∷ more) = tree_of_groups (beginning first (operand_after (second ∷ more)) (grouped (second ∷ more))).groups
