-- Groups, last first, as the items are taken from the right.
use Rattle.std.proofs.Common.{◌≡◌, ◌∙◌, sym, ap, subst, refl, ◌<◌, List, [], ◌∷◌, ◌++◌, length, map, reverse, Option, arith}
use Rattle.std.proofs.lemmas.List.{reverse-reverse, reverse-append}
use Rattle.query_tree.specs.declared.item.Item.{Item}
use Rattle.query_tree.specs.declared.item.Operand.{Operand}
use Rattle.query_tree.specs.declared.tree.UserInputAst.TheVariants.{Clause}
use Rattle.query_tree.specs.declared.aggregating.Groups.{Groups}
use Rattle.query_tree.specs.Aggregation.{Pair, Grouped, grouped, grouped_by, operand_after, pair_of_group, beginning, first_pair, default_mark, tree_of_groups, aggregated, lone}
use Rattle.query_tree.specs.Groups.{HoldsGroups, clause_of}

reversed : {A : Type 0} (x : A) (xs : List A) → reverse (x ∷ xs) ≡ reverse xs ++ x ∷ []
reversed x xs = reverse-append (x ∷ []) xs

group_is : (group joining later : List Pair) (pair : Pair) → joining ≡ reverse later → reverse group ≡ joining ++ pair ∷ [] → group ≡ pair ∷ later
group_is group joining later pair h g =
    sym (reverse-reverse group) ∙ ap reverse (g ∙ ap (λ x. x ++ pair ∷ []) h ∙ sym (reversed pair later)) ∙ reverse-reverse (pair ∷ later)

pub begin_holds : (old new : Groups) (later : Grouped) (item : Item) (after : Option Operand) (pair : Pair) (group : List Pair)
    → HoldsGroups old later → pair ≡ first_pair item.mark (default_mark item.operand after) item.tree
    → reverse group ≡ old.joining.items ++ pair ∷ [] → new.joining.items ≡ [] → new.pairs.items ≡ old.pairs.items ++ pair_of_group group ∷ [] → HoldsGroups new (beginning item after later)
begin_holds old new later item after pair group holds p g none more =
    let whole : group ≡ first_pair item.mark (default_mark item.operand after) item.tree ∷ later.joining = group_is group old.joining.items later.joining pair holds.joining g ∙ ap (λ x. x ∷ later.joining) p in
    record {
      joining = none;
      pairs = more ∙ ap (λ x. x ++ pair_of_group group ∷ []) holds.pairs ∙ ap (λ x. reverse (map pair_of_group later.groups) ++ pair_of_group x ∷ []) whole
          ∙ sym (reversed (pair_of_group (first_pair item.mark (default_mark item.operand after) item.tree ∷ later.joining)) (map pair_of_group later.groups));
    }

-- ---- one item more

pub added_holds : (held : Groups) (item : Item) (after : Option Operand) (yielded : List Item) → after ≡ operand_after (reverse yielded)
    → HoldsGroups held (grouped_by item.operand item after (grouped (reverse yielded))) → HoldsGroups held (grouped (reverse (yielded ++ item ∷ [])))
unfolding grouped
added_holds held item after yielded e h =
    let P : List Item → Type 0 = λ xs. HoldsGroups held (grouped xs) in
    let Q : Option Operand → Type 0 = λ a. HoldsGroups held (grouped_by item.operand item a (grouped (reverse yielded))) in
    subst P (sym (reverse-append yielded (item ∷ []))) (subst Q e h)

pub operand_added : (item : Item) (yielded : List Item) → item.operand ≡ operand_after (reverse (yielded ++ item ∷ []))
operand_added item yielded = ap operand_after (sym (reverse-append yielded (item ∷ [])))

-- ---- the first item

none_mapped : (gs : List (List Pair)) → [] ≡ reverse (map pair_of_group gs) → gs ≡ []
none_mapped gs h = none gs (ap reverse h ∙ reverse-reverse (map pair_of_group gs))
  where
    none : (gs : List (List Pair)) → [] ≡ map pair_of_group gs → gs ≡ []
    none [] h = refl
    none (g ∷ gs) h = cc

closed_is : (group : List Pair) (pairs : List Pair) (gs : List (List Pair)) → pairs ≡ reverse (map pair_of_group gs) → clause_of group pairs ≡ tree_of_groups (group ∷ gs)
unfolding tree_of_groups
closed_is group [] gs h = ap (λ x. tree_of_groups (group ∷ x)) (sym (none_mapped gs h))
closed_is group (p ∷ ps) [] h = cc
closed_is group (p ∷ ps) (g ∷ gs) h = ap Clause (reverse-append (p ∷ ps) (pair_of_group group ∷ []) ∙ ap (λ xs. pair_of_group group ∷ xs) (ap reverse h ∙ reverse-reverse (map pair_of_group (g ∷ gs))))

pub several_items : (first : Item) (others : List Item) (held : Groups) (pair : Pair) (group : List Pair) → 0 < length others → HoldsGroups held (grouped others)
    → pair ≡ first_pair first.mark (default_mark first.operand (operand_after others)) first.tree → reverse group ≡ held.joining.items ++ pair ∷ []
    → clause_of group held.pairs.items ≡ aggregated first others
unfolding aggregated
several_items first [] held pair group lt h p g = absurd (omega arith)
several_items first (x ∷ others) held pair group lt h p g =
    let whole : group ≡ pair ∷ (grouped (x ∷ others)).joining = group_is group held.joining.items (grouped (x ∷ others)).joining pair h.joining g in
    closed_is group held.pairs.items (grouped (x ∷ others)).groups h.pairs
    ∙ ap (λ y. tree_of_groups (y ∷ (grouped (x ∷ others)).groups)) (whole ∙ ap (λ q. q ∷ (grouped (x ∷ others)).joining) p)
