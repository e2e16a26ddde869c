-- Trees joined by AND and OR: groups of trees, none of them empty.
use Rattle.std.proofs.Common.{◌≡◌, ◌∙◌, sym, ap, refl, List, [], ◌∷◌, ◌++◌, map, Option, Some, None, append_assoc, append-nil}
use Rattle.query_tree.specs.declared.tree.Occur.TheVariants.{Should, Must}
use Rattle.query_tree.specs.declared.tree.UserInputAst.{UserInputAst}
use Rattle.query_tree.specs.declared.tree.UserInputAst.TheVariants.{Clause}
use Rattle.query_tree.specs.declared.item.Operand.{Operand}
use Rattle.query_tree.specs.declared.item.Operand.TheVariants.{And, Or}
use Rattle.query_tree.specs.declared.item.Item.{Item}
use Rattle.query_tree.specs.Aggregation.{Pair, Grouped, aggregated, grouped, tree_of_groups, pair_of_group, lone, default_mark, first_pair, operand_after, beginning, grouped_by}

-- the first, and the others
abbrev pub Some' : Type 0 → Type 0
Some' A = A × List A

abbrev pub with : {A : Type 0} → Some' A → Some' A → Some' A
with a b = (a.0, a.1 ++ b.0 ∷ b.1)

abbrev pub Conjunction : Type 0
Conjunction = Some' UserInputAst

abbrev pub Disjunction : Type 0
Disjunction = Some' Conjunction

abbrev pub item : Option Operand → UserInputAst → Item
item before tree = record { operand = before; mark = None; tree = tree }

abbrev pub more_conjuncts : List UserInputAst → List Item
more_conjuncts [] = []
more_conjuncts (t ∷ ts) = item (Some And) t ∷ more_conjuncts ts

abbrev pub conjuncts : Option Operand → Conjunction → List Item
conjuncts before c = item before c.0 ∷ more_conjuncts c.1

abbrev pub more_disjuncts : List Conjunction → List Item
more_disjuncts [] = []
more_disjuncts (c ∷ cs) = conjuncts (Some Or) c ++ more_disjuncts cs

abbrev pub items : Option Operand → Disjunction → List Item
items before d = conjuncts before d.0 ++ more_disjuncts d.1

-- ---- the items of two that are joined

more_conjuncts-append : (xs : List UserInputAst) (t : UserInputAst) (ys : List UserInputAst)
    → more_conjuncts (xs ++ t ∷ ys) ≡ more_conjuncts xs ++ conjuncts (Some And) (t, ys)
more_conjuncts-append [] t ys = refl
more_conjuncts-append (x ∷ xs) t ys = ap (λ is. item (Some And) x ∷ is) (more_conjuncts-append xs t ys)

pub conjuncts-with : (before : Option Operand) (a b : Conjunction) → conjuncts before (with a b) ≡ conjuncts before a ++ conjuncts (Some And) b
conjuncts-with before a b = ap (λ is. item before a.0 ∷ is) (more_conjuncts-append a.1 b.0 b.1)

more_disjuncts-append : (xs : List Conjunction) (c : Conjunction) (ys : List Conjunction)
    → more_disjuncts (xs ++ c ∷ ys) ≡ more_disjuncts xs ++ items (Some Or) (c, ys)
more_disjuncts-append [] c ys = refl
more_disjuncts-append (x ∷ xs) c ys =
    ap (λ is. conjuncts (Some Or) x ++ is) (more_disjuncts-append xs c ys) ∙ sym (append_assoc (conjuncts (Some Or) x) (more_disjuncts xs) (items (Some Or) (c, ys)))

pub items-with : (before : Option Operand) (a b : Disjunction) → items before (with a b) ≡ items before a ++ items (Some Or) b
items-with before a b =
    ap (λ is. conjuncts before a.0 ++ is) (more_disjuncts-append a.1 b.0 b.1) ∙ sym (append_assoc (conjuncts before a.0) (more_disjuncts a.1) (items (Some Or) b))

-- ---- the tree

abbrev pub must : UserInputAst → Pair
must t = (Some Must, t)

abbrev pub group : Conjunction → List Pair
group (t, []) = (Some Should, t) ∷ []
group (t, u ∷ us) = must t ∷ must u ∷ map must us

abbrev pub disjunct : Conjunction → Pair
disjunct (t, []) = (Some Should, t)
disjunct (t, u ∷ us) = (Some Should, Clause (must t ∷ must u ∷ map must us))

abbrev pub joined : Disjunction → UserInputAst
joined ((t, []), []) = t
joined ((t, u ∷ us), []) = Clause (must t ∷ must u ∷ map must us)
joined (c, d ∷ ds) = Clause (disjunct c ∷ disjunct d ∷ map disjunct ds)

abbrev pub aggregate : List Item → UserInputAst
aggregate [] = Clause []
aggregate (first ∷ others) = aggregated first others

conjuncts_grouped : (ts : List UserInputAst) (rest : List Item)
    → grouped (more_conjuncts ts ++ rest) ≡ record { joining = map must ts ++ (grouped rest).joining; groups = (grouped rest).groups }
unfolding grouped
conjuncts_grouped [] rest = refl
conjuncts_grouped (t ∷ ts) rest = ap (grouped_by (Some And) (item (Some And) t) (operand_after (more_conjuncts ts ++ rest))) (conjuncts_grouped ts rest)

more_disjuncts_grouped : (cs : List Conjunction) → grouped (more_disjuncts cs) ≡ record { joining = []; groups = map group cs }
unfolding grouped first_pair default_mark
more_disjuncts_grouped [] = refl
more_disjuncts_grouped ((t, []) ∷ []) = refl
more_disjuncts_grouped ((t, []) ∷ d ∷ ds) = ap (grouped_by (Some Or) (item (Some Or) t) (Some Or)) (more_disjuncts_grouped (d ∷ ds))
more_disjuncts_grouped ((t, u ∷ us) ∷ cs) =
    let later : grouped (more_conjuncts (u ∷ us) ++ more_disjuncts cs) ≡ record { joining = must u ∷ map must us; groups = map group cs } =
    conjuncts_grouped (u ∷ us) (more_disjuncts cs)
    ∙ ap (λ (g : Grouped). let out : Grouped = record { joining = map must (u ∷ us) ++ g.joining; groups = g.groups } in out) (more_disjuncts_grouped cs)
    ∙ ap (λ (js : List Pair). let out : Grouped = record { joining = js; groups = map group cs } in out) (append-nil (map must (u ∷ us))) in
    ap (grouped_by (Some Or) (item (Some Or) t) (Some And)) later

conjunction_grouped : (u : UserInputAst) (us : List UserInputAst) (cs : List Conjunction)
    → grouped (more_conjuncts (u ∷ us) ++ more_disjuncts cs) ≡ record { joining = must u ∷ map must us; groups = map group cs }
unfolding grouped
conjunction_grouped u us cs =
    conjuncts_grouped (u ∷ us) (more_disjuncts cs)
    ∙ ap (λ (g : Grouped). let out : Grouped = record { joining = map must (u ∷ us) ++ g.joining; groups = g.groups } in out) (more_disjuncts_grouped cs)
    ∙ ap (λ (js : List Pair). let out : Grouped = record { joining = js; groups = map group cs } in out) (append-nil (map must (u ∷ us)))

pairs_of_groups : (cs : List Conjunction) → map pair_of_group (map group cs) ≡ map disjunct cs
unfolding pair_of_group
pairs_of_groups [] = refl
pairs_of_groups ((t, []) ∷ cs) = ap (λ ps. (Some Should, t) ∷ ps) (pairs_of_groups cs)
pairs_of_groups ((t, u ∷ us) ∷ cs) = ap (λ ps. disjunct (t, u ∷ us) ∷ ps) (pairs_of_groups cs)

pub joined_is : (d : Disjunction) → aggregate (items None d) ≡ joined d
unfolding aggregated lone grouped first_pair default_mark tree_of_groups pair_of_group
joined_is ((t, []), []) = refl
joined_is ((t, u ∷ us), []) =
    ap (λ (g : Grouped). tree_of_groups (beginning (item None t) (Some And) g).groups) (conjunction_grouped u us [])
joined_is ((t, []), (v, []) ∷ ds) =
    ap (λ (g : Grouped). tree_of_groups (beginning (item None t) (Some Or) g).groups) (more_disjuncts_grouped ((v, []) ∷ ds))
    ∙ ap (λ ps. Clause ((Some Should, t) ∷ ps)) (pairs_of_groups ((v, []) ∷ ds))
joined_is ((t, []), (v, w ∷ ws) ∷ ds) =
    ap (λ (g : Grouped). tree_of_groups (beginning (item None t) (Some Or) g).groups) (more_disjuncts_grouped ((v, w ∷ ws) ∷ ds))
    ∙ ap (λ ps. Clause ((Some Should, t) ∷ ps)) (pairs_of_groups ((v, w ∷ ws) ∷ ds))
joined_is ((t, u ∷ us), d ∷ ds) =
    ap (λ (g : Grouped). tree_of_groups (beginning (item None t) (Some And) g).groups) (conjunction_grouped u us (d ∷ ds))
    ∙ ap (λ ps. Clause (disjunct (t, u ∷ us) ∷ ps)) (pairs_of_groups (d ∷ ds))
