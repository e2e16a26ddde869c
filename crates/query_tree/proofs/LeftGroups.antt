-- Items taken from the left give the same groups as from the right.
use Rattle.std.proofs.Common.{◌≡◌, ◌∙◌, sym, ap, refl, List, [], ◌∷◌, ◌++◌, append_assoc, append-nil, Option, Some, None}
use Rattle.query_tree.specs.declared.tree.Occur.TheVariants.{Must}
use Rattle.query_tree.specs.declared.item.Operand.{Operand}
use Rattle.query_tree.specs.declared.item.Operand.TheVariants.{And, Or}
use Rattle.query_tree.specs.declared.item.Item.{Item}
use Rattle.query_tree.specs.Aggregation.{Pair, Grouped, grouped, grouped_by, beginning, mark_or, operand_after, tree_of_groups, aggregated}
use Rattle.query_tree.specs.FromTheLeft.{with_last, beginning_pair, added_by, groups_from_left, AggregatesFromTheLeft}

with_last_is : (gs : List (List Pair)) (g : List Pair) (p : Pair) → with_last p (gs ++ g ∷ []) ≡ gs ++ (g ++ p ∷ []) ∷ []
with_last_is [] g p = refl
with_last_is (h ∷ []) g p = refl
with_last_is (h ∷ k ∷ gs) g p = ap (λ (x : List (List Pair)). h ∷ x) (with_last_is (k ∷ gs) g p)

-- what the later items make of the groups, the last of which they may join
abbrev behind : List (List Pair) → List Pair → Grouped → List (List Pair)
behind gs g later = gs ++ (g ++ later.joining) ∷ later.groups

-- an item that begins a group
begun : (item : Item) (more : List Item) → ((gs : List (List Pair)) (g : List Pair) → groups_from_left (gs ++ g ∷ []) more ≡ behind gs g (grouped more))
    → (gs : List (List Pair)) (g : List Pair)
    → groups_from_left ((gs ++ g ∷ []) ++ (beginning_pair item (operand_after more) ∷ []) ∷ []) more ≡ behind gs g (beginning item (operand_after more) (grouped more))
begun item more again gs g =
    let rest : List (List Pair) = (beginning_pair item (operand_after more) ∷ (grouped more).joining) ∷ (grouped more).groups in
    again (gs ++ g ∷ []) (beginning_pair item (operand_after more) ∷ [])
    ∙ append_assoc gs (g ∷ []) rest ∙ ap (λ (x : List Pair). gs ++ x ∷ rest) (sym (append-nil g))

-- one item, where the later ones do so
step : (item : Item) (more : List Item) → ((gs : List (List Pair)) (g : List Pair) → groups_from_left (gs ++ g ∷ []) more ≡ behind gs g (grouped more))
    → (o : Option Operand) (gs : List (List Pair)) (g : List Pair)
    → groups_from_left (added_by o item (operand_after more) (gs ++ g ∷ [])) more ≡ behind gs g (grouped_by o item (operand_after more) (grouped more))
step item more again (Some And) gs g =
    let p : Pair = (mark_or item.mark (Some Must), item.tree) in
    ap (λ (x : List (List Pair)). groups_from_left x more) (with_last_is gs g p) ∙ again gs (g ++ p ∷ [])
    ∙ ap (λ (x : List Pair). gs ++ x ∷ (grouped more).groups) (append_assoc g (p ∷ []) (grouped more).joining)
step item more again (Some Or) gs g = begun item more again gs g
step item more again None gs g = begun item more again gs g

groups_are : (items : List Item) (gs : List (List Pair)) (g : List Pair) → groups_from_left (gs ++ g ∷ []) items ≡ behind gs g (grouped items)
unfolding grouped
groups_are [] gs g = ap (λ (x : List Pair). gs ++ x ∷ []) (sym (append-nil g))
groups_are (item ∷ more) gs g = step item more (groups_are more) item.operand gs g

pub from_the_left : AggregatesFromTheLeft
unfolding aggregated
from_the_left first [] = refl
from_the_left first (second ∷ more) =
    sym (ap tree_of_groups (groups_are (second ∷ more) [] (beginning_pair first (operand_after (second ∷ more)) ∷ [])))
