-- One level more.
use Rattle.std.proofs.Common.{◌≡◌, ap, refl, ℕ, zero, suc, ◌-◌, ◌<◌, List, arith}
use Rattle.query_tree.specs.Reader.{Deep}
use Rattle.query_tree.specs.Grammar.{leaf, ast, leaf_enclosing, enclosed_leaf, enclosed_tree}

pub leaf_is : (levels : ℕ) (text : List ℕ) → leaf levels text ≡ leaf_enclosing (enclosed_tree levels) (enclosed_leaf levels) text
unfolding leaf enclosed_leaf enclosed_tree
leaf_is zero text = refl
leaf_is (suc levels) text = refl

pub tree_too_deep : (text : List ℕ) → enclosed_tree 0 text ≡ Deep
unfolding enclosed_tree
tree_too_deep text = refl

pub leaf_too_deep : (text : List ℕ) → enclosed_leaf 0 text ≡ Deep
unfolding enclosed_leaf
leaf_too_deep text = refl

pub tree_opens : (levels : ℕ) (text : List ℕ) → 0 < levels → enclosed_tree levels text ≡ ast (levels - 1) text
unfolding enclosed_tree
tree_opens levels text h =
    let e : levels ≡ suc (levels - 1) = omega arith in
    ap (λ n. enclosed_tree n text) e

pub leaf_opens : (levels : ℕ) (text : List ℕ) → 0 < levels → enclosed_leaf levels text ≡ leaf (levels - 1) text
unfolding enclosed_leaf
leaf_opens levels text h =
    let e : levels ≡ suc (levels - 1) = omega arith in
    ap (λ n. enclosed_leaf n text) e
