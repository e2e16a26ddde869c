-- What is written of a tree, piece by piece, is its debug text.
use Rattle.std.proofs.Common.{◌≡◌, ◌∙◌, sym, ap, ◌<◌, List, [], ◌∷◌, ◌++◌, length, map, Option, arith}
use Rattle.std.specs.Prelude.{Bool, false, IsTrue, codes}
use Rattle.std.proofs.lemmas.Bool.{false≢true}
use Rattle.std.specs.List.{join_with_byte}
use Rattle.std.proofs.lemmas.Simd.{map-map}
use Rattle.query_tree.specs.declared.tree.Occur.{Occur}
use Rattle.query_tree.specs.Decimals.{Digits}
use Rattle.query_tree.specs.declared.tree.UserInputLeaf.{UserInputLeaf}
use Rattle.query_tree.specs.declared.tree.UserInputAst.{UserInputAst}
use Rattle.query_tree.specs.declared.tree.UserInputAst.TheVariants as tree
use Rattle.query_tree.specs.Texts.{debug_text, leaf_text, decimal_text, pair_text, shown_pair, whole_pair}
use Rattle.query_tree.proofs.Plain.{debug-Clause, debug-Boost, debug-Leaf}

pub empty_shown : (t : UserInputAst) (pairs : List (Option Occur × UserInputAst)) → t ≡ tree.Clause pairs → pairs ≡ [] → codes "<emptyclause>" ≡ debug_text t
empty_shown t pairs h e = sym (ap debug_text h ∙ ap (λ ps. debug_text (tree.Clause ps)) e ∙ debug-Clause [])

pub clause_shown : (t : UserInputAst) (pairs : List (Option Occur × UserInputAst)) → t ≡ tree.Clause pairs → 0 < length pairs
    → (codes "(" ++ join_with_byte 32 (map whole_pair pairs)) ++ codes ")" ≡ debug_text t
clause_shown t [] h lt = absurd (omega arith)
clause_shown t (p ∷ ps) h lt =
    ap (λ texts. (codes "(" ++ join_with_byte 32 texts) ++ codes ")") (sym (map-map pair_text shown_pair (p ∷ ps)))
    ∙ sym (ap debug_text h ∙ debug-Clause (p ∷ ps))

pub boost_shown : (t u v : UserInputAst) (d : Digits) → t ≡ tree.Boost u d → v ≡ u
    → ((codes "(" ++ debug_text v) ++ codes ")^") ++ decimal_text d.whole d.fraction ≡ debug_text t
boost_shown t u v d h e =
    ap (λ x. ((codes "(" ++ debug_text x) ++ codes ")^") ++ decimal_text d.whole d.fraction) e
    ∙ sym (ap debug_text h ∙ debug-Boost u d)

pub leaf_shown : (t : UserInputAst) (l k : UserInputLeaf) → t ≡ tree.Leaf l → k ≡ l → leaf_text k ≡ debug_text t
leaf_shown t l k h e = ap leaf_text e ∙ sym (ap debug_text h ∙ debug-Leaf l)

pub not_empty : (pairs shown : List (Option Occur × UserInputAst)) (is_empty : Bool) → shown ≡ pairs → (pairs ≡ [] → IsTrue is_empty) → is_empty ≡ false → 0 < length shown
not_empty pairs [] b e f h = absurd (false≢true (sym h ∙ f (sym e)))
not_empty pairs (p ∷ ps) b e f h = omega arith
