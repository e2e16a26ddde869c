-- What the recursions over trees give at each variant.
use Rattle.std.proofs.Common.{◌≡◌, ◌∙◌, sym, ap, ℕ, ◌+◌, ◌<◌, List, [], ◌∷◌, ◌++◌, length, map, take, get_or, Option, refl, add-one}
use Rattle.std.proofs.Math.Seq.{take-suc}
use Rattle.std.specs.List.{flat_map}
use Rattle.std.proofs.lemmas.List.Concat.{flat_map-append}
use Rattle.query_tree.specs.declared.tree.Occur.{Occur}
use Rattle.query_tree.specs.Decimals.{Digits}
use Rattle.query_tree.specs.declared.tree.UserInputLeaf.{UserInputLeaf}
use Rattle.query_tree.specs.declared.tree.UserInputAst.{UserInputAst, fold-roll-UserInputAst}
use Rattle.query_tree.specs.declared.tree.UserInputAst.TheVariants as tree
use Rattle.query_tree.specs.declared.tree.UserInputAst.TheVariants.{rolls-Clause, rolls-Boost, rolls-Leaf}
use Rattle.query_tree.specs.declared.tree.UserInputAst.TheOpen.{Clause, Boost, Leaf}
use Rattle.documents.specs.declared.documents.Doc.{Doc}
use Rattle.printed_queries.specs.Satisfies.{satisfies, satisfies_clause, satisfies_leaf}
use Rattle.term_search.specs.Search.{leaves_of}
use Rattle.term_search.specs.Leaves.{leaves_among}

pub satisfies-Clause : (doc : Doc) (default : List ℕ) (pairs : List (Option Occur × UserInputAst))
    → satisfies doc (tree.Clause pairs) default ≡ satisfies_clause (map (λ p. (p.0, satisfies doc p.1 default)) pairs)
unfolding satisfies
satisfies-Clause doc default pairs = ap (λ t. satisfies doc t default) (sym (rolls-Clause pairs)) ∙ fold-roll-UserInputAst _ _ (Clause pairs)

pub satisfies-Boost : (doc : Doc) (default : List ℕ) (inner : UserInputAst) (factor : Digits)
    → satisfies doc (tree.Boost inner factor) default ≡ satisfies doc inner default
unfolding satisfies
satisfies-Boost doc default inner factor = ap (λ t. satisfies doc t default) (sym (rolls-Boost inner factor)) ∙ fold-roll-UserInputAst _ _ (Boost inner factor)

pub satisfies-Leaf : (doc : Doc) (default : List ℕ) (l : UserInputLeaf) → satisfies doc (tree.Leaf l) default ≡ satisfies_leaf doc default l
unfolding satisfies
satisfies-Leaf doc default l = ap (λ t. satisfies doc t default) (sym (rolls-Leaf l)) ∙ fold-roll-UserInputAst _ _ (Leaf l)

flat_map-pairs : {A B C : Type 0} (f : B → List C) (pairs : List (A × B)) → flat_map (λ (p : A × List C). p.1) (map (λ (p : A × B). (p.0, f p.1)) pairs) ≡ flat_map (λ (p : A × B). f p.1) pairs
flat_map-pairs f [] = refl
flat_map-pairs f (p ∷ pairs) = ap (λ ys. f p.1 ++ ys) (flat_map-pairs f pairs)

pub leaves_of-Clause : (pairs : List (Option Occur × UserInputAst)) → leaves_of (tree.Clause pairs) ≡ leaves_among pairs
unfolding leaves_of
leaves_of-Clause pairs = ap leaves_of (sym (rolls-Clause pairs)) ∙ fold-roll-UserInputAst _ _ (Clause pairs) ∙ flat_map-pairs leaves_of pairs

pub leaves_of-Boost : (inner : UserInputAst) (factor : Digits) → leaves_of (tree.Boost inner factor) ≡ leaves_of inner
unfolding leaves_of
leaves_of-Boost inner factor = ap leaves_of (sym (rolls-Boost inner factor)) ∙ fold-roll-UserInputAst _ _ (Boost inner factor)

pub leaves_of-Leaf : (l : UserInputLeaf) → leaves_of (tree.Leaf l) ≡ l ∷ []
unfolding leaves_of
leaves_of-Leaf l = ap leaves_of (sym (rolls-Leaf l)) ∙ fold-roll-UserInputAst _ _ (Leaf l)

pub ruleset all_leaves = (leaves_of-Clause, leaves_of-Boost, leaves_of-Leaf)

-- ---- one pair more

pub one_more : {A : Type 0} (xs : List A) (i : ℕ) (x : A) → i < length xs → x ≡ get_or xs i x → take (i + 1) xs ≡ take i xs ++ x ∷ []
one_more xs i x h e = ap (λ n. take n xs) (add-one i) ∙ take-suc xs i x h ∙ ap (λ y. take i xs ++ y ∷ []) (sym e)

pub leaves_next : (pairs : List (Option Occur × UserInputAst)) (i : ℕ) (pair : Option Occur × UserInputAst) → i < length pairs → pair ≡ get_or pairs i pair
    → leaves_among (take (i + 1) pairs) ≡ leaves_among (take i pairs) ++ leaves_of pair.1
leaves_next pairs i pair h e =
    ap leaves_among (one_more pairs i pair h e) ∙ flat_map-append (λ p. leaves_of p.1) (take i pairs) (pair ∷ []) ∙ ap (λ ys. leaves_among (take i pairs) ++ ys) (nothing (leaves_of pair.1))
  where
    nothing : {A : Type 0} (ys : List A) → ys ++ [] ≡ ys
    nothing [] = refl
    nothing (y ∷ ys) = ap (λ zs. y ∷ zs) (nothing ys)
