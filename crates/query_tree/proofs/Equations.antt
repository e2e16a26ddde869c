-- What the recursions over trees give at each variant.
use Rattle.std.proofs.Common.{◌≡◌, ◌∙◌, sym, ap, ℕ, List, map, length, take, ◌≤◌, Option, false}
use Rattle.std.proofs.lemmas.List.{take_all}
use Rattle.std.proofs.lemmas.Simd.{map-map}
use Rattle.query_tree.specs.declared.tree.Occur.{Occur}
use Rattle.query_tree.specs.Decimals.{Digits}
use Rattle.query_tree.specs.declared.tree.UserInputLeaf.{UserInputLeaf}
use Rattle.query_tree.specs.declared.tree.UserInputAst.{UserInputAst, fold-roll-UserInputAst, para-roll-UserInputAst}
use Rattle.query_tree.specs.declared.tree.UserInputAst.TheVariants as tree
use Rattle.query_tree.specs.declared.tree.UserInputAst.TheVariants.{rolls-Clause, rolls-Boost, rolls-Leaf, outs-Leaf, outs-Clause}
use Rattle.query_tree.specs.declared.tree.UserInputAst.TheOpen.{Clause, Boost, Leaf}
use Rattle.query_tree.specs.Rewriting.{leaf_under_field, same_leaf, same_tree, same_layer, under_field, rewritten, rewritten_clause}

pub under_field-Leaf : (field : List ℕ) (l : UserInputLeaf) → under_field field (tree.Leaf l) ≡ tree.Leaf (leaf_under_field field l)
unfolding under_field
under_field-Leaf field l = ap (under_field field) (sym (rolls-Leaf l)) ∙ fold-roll-UserInputAst _ _ (Leaf l)

pub under_field-Clause : (field : List ℕ) (pairs : List (Option Occur × UserInputAst)) → under_field field (tree.Clause pairs) ≡ tree.Clause (map (λ p. (p.0, under_field field p.1)) pairs)
unfolding under_field
under_field-Clause field pairs = ap (under_field field) (sym (rolls-Clause pairs)) ∙ fold-roll-UserInputAst _ _ (Clause pairs)

pub rewritten-Clause : (pairs : List (Option Occur × UserInputAst)) → rewritten (tree.Clause pairs) ≡ rewritten_clause (map (λ p. (p.0, rewritten p.1)) pairs)
unfolding rewritten
rewritten-Clause pairs = ap rewritten (sym (rolls-Clause pairs)) ∙ para-roll-UserInputAst _ _ (Clause pairs) ∙ ap rewritten_clause (map-map _ _ pairs)

pub rewritten-Leaf : (l : UserInputLeaf) → rewritten (tree.Leaf l) ≡ tree.Leaf l
unfolding rewritten
rewritten-Leaf l = ap rewritten (sym (rolls-Leaf l)) ∙ para-roll-UserInputAst _ _ (Leaf l)

pub rewritten-Boost : (t : UserInputAst) (d : Digits) → rewritten (tree.Boost t d) ≡ tree.Boost t d
unfolding rewritten
rewritten-Boost t d = ap rewritten (sym (rolls-Boost t d)) ∙ para-roll-UserInputAst _ _ (Boost t d)

pub under_field-Boost : (field : List ℕ) (inner : UserInputAst) (d : Digits) → under_field field (tree.Boost inner d) ≡ tree.Boost (under_field field inner) d
unfolding under_field
under_field-Boost field inner d = ap (under_field field) (sym (rolls-Boost inner d)) ∙ fold-roll-UserInputAst _ _ (Boost inner d)

pub ruleset trees_rewritten = (rewritten-Leaf, rewritten-Clause, rewritten-Boost)

pub ruleset trees_under_field = (under_field-Leaf, under_field-Clause, under_field-Boost)

-- ---- equality at each variant

pub same_tree-Leaf : (a b : UserInputLeaf) → same_tree (tree.Leaf a) (tree.Leaf b) ≡ same_leaf a b
unfolding same_tree
same_tree-Leaf a b =
    ap (λ f. f (tree.Leaf b)) (ap same_tree (sym (rolls-Leaf a)) ∙ fold-roll-UserInputAst _ _ (Leaf a))
    ∙ ap (same_layer (Leaf a)) (outs-Leaf b)
