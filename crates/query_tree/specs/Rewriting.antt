-- The default field, equality of trees, and the rewriting at the end.
use Rattle.std.specs.Prelude.{ℕ, Bool, true, false, not, ◌&&◌, ◌==◌, List, [], ◌∷◌, map, filter, Option, Some, None}
use Rattle.std.specs.Str.{bytes_eq}
use Rattle.query_tree.specs.declared.tree.Occur.{Occur}
use Rattle.query_tree.specs.declared.tree.Occur.TheVariants as occur
use Rattle.query_tree.specs.declared.tree.Delimiter.{Delimiter}
use Rattle.query_tree.specs.declared.tree.Delimiter.TheVariants as delimiter
use Rattle.query_tree.specs.Decimals.{Digits}
use Rattle.query_tree.specs.declared.tree.UserInputLiteral.{UserInputLiteral}
use Rattle.query_tree.specs.declared.tree.UserInputBound.{UserInputBound}
use Rattle.query_tree.specs.declared.tree.UserInputBound.TheVariants.{Inclusive, Exclusive, Unbounded}
use Rattle.query_tree.specs.declared.tree.UserInputLeaf.{UserInputLeaf}
use Rattle.query_tree.specs.declared.tree.UserInputLeaf.TheVariants as leaf
use Rattle.query_tree.specs.declared.tree.UserInputAst.{UserInputAst, out-UserInputAst, fold-UserInputAst, para-UserInputAst}
use Rattle.query_tree.specs.declared.tree.UserInputAst.TheVariants as tree
use Rattle.query_tree.specs.declared.tree.UserInputAst.TheOpen.{UserInputAst-F, Clause, Boost, Leaf}

abbrev pub field_or : Option (List ℕ) → List ℕ → Option (List ℕ)
field_or None field = Some field
field_or (Some own) field = Some own

-- the leaf with this field where it has none; all becomes the field's existence
unfoldable pub leaf_under_field : List ℕ → UserInputLeaf → UserInputLeaf
leaf_under_field field (leaf.Literal l) = leaf.Literal (record l { field_name = field_or l.field_name field })
leaf_under_field field leaf.All = leaf.Exists field
leaf_under_field field (leaf.Range own lower upper) = leaf.Range (field_or own field) lower upper
leaf_under_field field (leaf.Set own elements) = leaf.Set (field_or own field) elements
leaf_under_field field (leaf.Exists own) = leaf.Exists own
leaf_under_field field (leaf.Regex own pattern) = leaf.Regex (field_or own field) pattern

unfoldable pub with_field : Option (List ℕ) → UserInputLeaf → UserInputLeaf
with_field None found = found
with_field (Some field) found = leaf_under_field field found

abbrev layer_under_field : List ℕ → UserInputAst-F UserInputAst → UserInputAst
layer_under_field field (Clause pairs) = tree.Clause pairs
layer_under_field field (Boost inner factor) = tree.Boost inner factor
layer_under_field field (Leaf found) = tree.Leaf (leaf_under_field field found)

-- the field in every leaf without one, inside clauses and boosts
unfoldable pub under_field : List ℕ → UserInputAst → UserInputAst
under_field field = fold-UserInputAst UserInputAst (layer_under_field field)

-- ---- equality, by parts

abbrev pub same_occur : Option Occur → Option Occur → Bool
same_occur None None = true
same_occur (Some occur.Should) (Some occur.Should) = true
same_occur (Some occur.Must) (Some occur.Must) = true
same_occur (Some occur.MustNot) (Some occur.MustNot) = true
same_occur _ _ = false

abbrev pub same_delimiter : Delimiter → Delimiter → Bool
same_delimiter delimiter.SingleQuotes delimiter.SingleQuotes = true
same_delimiter delimiter.DoubleQuotes delimiter.DoubleQuotes = true
same_delimiter delimiter.None delimiter.None = true
same_delimiter _ _ = false

abbrev pub same_bool : Bool → Bool → Bool
same_bool true b = b
same_bool false b = not b

abbrev pub same_field : Option (List ℕ) → Option (List ℕ) → Bool
same_field None None = true
same_field (Some a) (Some b) = bytes_eq a b
same_field _ _ = false

abbrev pub same_bound : UserInputBound → UserInputBound → Bool
same_bound (Inclusive a) (Inclusive b) = bytes_eq a b
same_bound (Exclusive a) (Exclusive b) = bytes_eq a b
same_bound Unbounded Unbounded = true
same_bound _ _ = false

abbrev pub same_texts : List (List ℕ) → List (List ℕ) → Bool
same_texts [] [] = true
same_texts (a ∷ as') (b ∷ bs) = bytes_eq a b && same_texts as' bs
same_texts _ _ = false

abbrev pub same_literal : UserInputLiteral → UserInputLiteral → Bool
same_literal a b =
    (same_field a.field_name b.field_name && bytes_eq a.phrase b.phrase) && (same_delimiter a.delimiter b.delimiter && (a.slop == b.slop && same_bool a.prefix b.prefix))

unfoldable pub same_leaf : UserInputLeaf → UserInputLeaf → Bool
same_leaf (leaf.Literal a) (leaf.Literal b) = same_literal a b
same_leaf leaf.All leaf.All = true
same_leaf (leaf.Range f a b) (leaf.Range g c d) = same_field f g && (same_bound a c && same_bound b d)
same_leaf (leaf.Set f a) (leaf.Set g b) = same_field f g && same_texts a b
same_leaf (leaf.Exists f) (leaf.Exists g) = bytes_eq f g
same_leaf (leaf.Regex f a) (leaf.Regex g b) = same_field f g && bytes_eq a b
same_leaf _ _ = false

abbrev pub same_decimal : Digits → Digits → Bool
same_decimal a b = bytes_eq a.whole b.whole && bytes_eq a.fraction b.fraction

abbrev pub Tests : Type 0
Tests = List (Option Occur × (UserInputAst → Bool))

abbrev pub same_pairs : Tests → List (Option Occur × UserInputAst) → Bool
same_pairs [] [] = true
same_pairs (a ∷ tests) (b ∷ pairs) = (same_occur a.0 b.0 && a.1 b.1) && same_pairs tests pairs
same_pairs _ _ = false

-- one layer, where each part below is a test of what stands in its place
abbrev pub same_layer : UserInputAst-F (UserInputAst → Bool) → UserInputAst-F UserInputAst → Bool
same_layer (Clause tests) (Clause pairs) = same_pairs tests pairs
same_layer (Boost test a) (Boost inner b) = test inner && same_decimal a b
same_layer (Leaf a) (Leaf b) = same_leaf a b
same_layer _ _ = false

-- whether two trees are equal
unfoldable pub same_tree : UserInputAst → UserInputAst → Bool
same_tree = fold-UserInputAst (UserInputAst → Bool) (λ layer other. same_layer layer (out-UserInputAst other))

abbrev pub same_pair : Option Occur × UserInputAst → Option Occur × UserInputAst → Bool
same_pair a b = same_occur a.0 b.0 && same_tree a.1 b.1

-- ---- rewriting

-- equal pairs once, the first of them
unfoldable pub without_repeats : List (Option Occur × UserInputAst) → List (Option Occur × UserInputAst)
without_repeats [] = []
without_repeats (pair ∷ pairs) = pair ∷ filter (λ other. not (same_pair pair other)) (without_repeats pairs)

abbrev pub only_pair : Option Occur × UserInputAst → UserInputAst-F UserInputAst → Option Occur × UserInputAst
only_pair pair (Clause (inner ∷ [])) = inner
only_pair pair _ = pair

-- an unmarked clause of exactly one pair gives that pair
abbrev pub unwrapped : Option Occur × UserInputAst → Option Occur × UserInputAst
unwrapped (None, inner) = only_pair (None, inner) (out-UserInputAst inner)
unwrapped (Some occur, inner) = (Some occur, inner)

abbrev pub rewritten_clause : List (Option Occur × UserInputAst) → UserInputAst
rewritten_clause pairs = tree.Clause (map unwrapped (without_repeats pairs))

-- each part of a layer as it was and rewritten
abbrev rewritten_layer : UserInputAst-F (UserInputAst × UserInputAst) → UserInputAst
rewritten_layer (Clause pairs) = rewritten_clause (map (λ pair. (pair.0, pair.1.1)) pairs)
rewritten_layer (Boost inner factor) = tree.Boost inner.0 factor
rewritten_layer (Leaf found) = tree.Leaf found

-- from within; boosts aren't entered
unfoldable pub rewritten : UserInputAst → UserInputAst
rewritten = para-UserInputAst UserInputAst rewritten_layer
