-- Marks composed, and trees made of trees.
use Rattle.std.specs.Prelude.{List, [], ◌∷◌, map, Some}
use Rattle.query_tree.specs.declared.tree.Occur.{Occur}
use Rattle.query_tree.specs.declared.tree.Occur.TheVariants.{Should, Must, MustNot}
use Rattle.query_tree.specs.declared.tree.UserInputBound.{UserInputBound}
use Rattle.query_tree.specs.declared.tree.UserInputBound.TheVariants.{Inclusive, Exclusive, Unbounded}
use Rattle.query_tree.specs.declared.tree.UserInputAst.{UserInputAst}
use Rattle.query_tree.specs.declared.tree.UserInputAst.TheVariants.{Clause}
use Rattle.std.specs.Prelude.{ℕ, codes}

-- the mark of what stands under the second mark, inside the first
abbrev pub composed : Occur → Occur → Occur
composed Should right = right
composed Must MustNot = MustNot
composed Must right = Must
composed MustNot MustNot = Must
composed MustNot right = MustNot

-- how a mark is shown
abbrev pub occur_text : Occur → List ℕ
occur_text Should = codes "?"
occur_text Must = codes "+"
occur_text MustNot = codes "-"

abbrev pub bound_text : UserInputBound → List ℕ
bound_text (Inclusive text) = text
bound_text (Exclusive text) = text
bound_text Unbounded = codes "*"

-- the trees under one mark. A lone tree stays as it is.
abbrev pub under_mark : Occur → List UserInputAst → UserInputAst
under_mark occur (tree ∷ []) = tree
under_mark occur trees = Clause (map (λ tree. (Some occur, tree)) trees)
