-- The debug text of a tree.
use Rattle.std.specs.Prelude.{ℕ, zero, suc, true, false, Bool, List, [], ◌∷◌, ◌++◌, map, Option, Some, None, codes}
use Rattle.std.specs.List.{join_with_byte}
use Rattle.std.specs.Fmt.{decimal}
use Rattle.query_tree.specs.declared.tree.Occur.{Occur}
use Rattle.query_tree.specs.declared.tree.Occur.TheVariants as occur
use Rattle.query_tree.specs.declared.tree.Delimiter.{Delimiter}
use Rattle.query_tree.specs.declared.tree.Delimiter.TheVariants as delimiter
use Rattle.query_tree.specs.declared.tree.UserInputBound.{UserInputBound}
use Rattle.query_tree.specs.declared.tree.UserInputBound.TheVariants.{Inclusive, Exclusive, Unbounded}
use Rattle.query_tree.specs.declared.tree.UserInputLiteral.{UserInputLiteral}
use Rattle.query_tree.specs.declared.tree.UserInputLeaf.{UserInputLeaf}
use Rattle.query_tree.specs.declared.tree.UserInputLeaf.TheVariants as leaf
use Rattle.query_tree.specs.declared.tree.UserInputAst.{UserInputAst, fold-UserInputAst}
use Rattle.query_tree.specs.declared.tree.UserInputAst.TheOpen.{UserInputAst-F, Clause, Boost, Leaf}

abbrev pub in_quotes : List ℕ → List ℕ
in_quotes text = codes "\"" ++ text ++ codes "\""

-- in front of a leaf that has a field
abbrev pub field_text : Option (List ℕ) → List ℕ
field_text None = []
field_text (Some field) = in_quotes field ++ codes ":"

abbrev pub mark_text : Option Occur → List ℕ
mark_text None = codes "*"
mark_text (Some occur.Should) = codes "?"
mark_text (Some occur.Must) = codes "+"
mark_text (Some occur.MustNot) = codes "-"

abbrev pub delimited_text : Delimiter → List ℕ → List ℕ
delimited_text delimiter.SingleQuotes phrase = codes "'" ++ phrase ++ codes "'"
delimited_text delimiter.DoubleQuotes phrase = in_quotes phrase
delimited_text delimiter.None phrase = phrase

abbrev pub end_text : ℕ → Bool → List ℕ
end_text (suc n) prefix = codes "~" ++ decimal (suc n)
end_text zero true = codes "*"
end_text zero false = []

abbrev pub lower_text : UserInputBound → List ℕ
lower_text (Inclusive text) = codes "[" ++ in_quotes text
lower_text (Exclusive text) = codes "{" ++ in_quotes text
lower_text Unbounded = codes "{\"*\""

abbrev pub upper_text : UserInputBound → List ℕ
upper_text (Inclusive text) = in_quotes text ++ codes "]"
upper_text (Exclusive text) = in_quotes text ++ codes "}"
upper_text Unbounded = codes "\"*\"}"

abbrev pub set_gap : Option (List ℕ) → List ℕ
set_gap None = []
set_gap (Some field) = codes " "

abbrev pub literal_text : UserInputLiteral → List ℕ
literal_text l = field_text l.field_name ++ delimited_text l.delimiter l.phrase ++ end_text l.slop l.prefix

-- what stands in front of one more, behind so many
abbrev pub gap : ℕ → List ℕ
gap zero = []
gap (suc n) = codes " "

abbrev pub range_text : Option (List ℕ) → UserInputBound → UserInputBound → List ℕ
range_text field lower upper = field_text field ++ lower_text lower ++ codes " TO " ++ upper_text upper

abbrev pub set_text : Option (List ℕ) → List (List ℕ) → List ℕ
set_text field elements = field_text field ++ set_gap field ++ codes "IN [" ++ join_with_byte 32 (map in_quotes elements) ++ codes "]"

abbrev pub regex_text : Option (List ℕ) → List ℕ → List ℕ
regex_text field pattern = field_text field ++ codes "/" ++ pattern ++ codes "/"

unfoldable pub leaf_text : UserInputLeaf → List ℕ
leaf_text (leaf.Literal l) = literal_text l
leaf_text leaf.All = codes "*"
leaf_text (leaf.Range field lower upper) = range_text field lower upper
leaf_text (leaf.Set field elements) = set_text field elements
leaf_text (leaf.Exists field) = codes "$exists(" ++ in_quotes field ++ codes ")"
leaf_text (leaf.Regex field pattern) = regex_text field pattern

abbrev pub decimal_text : List ℕ → List ℕ → List ℕ
decimal_text whole [] = whole
decimal_text whole (d ∷ ds) = whole ++ codes "." ++ d ∷ ds

abbrev pub pair_text : Option Occur × List ℕ → List ℕ
pair_text pair = mark_text pair.0 ++ pair.1

abbrev pub clause_text : List (Option Occur × List ℕ) → List ℕ
clause_text [] = codes "<emptyclause>"
clause_text (pair ∷ pairs) = codes "(" ++ join_with_byte 32 (map pair_text (pair ∷ pairs)) ++ codes ")"

-- one layer, where each tree below is its text
abbrev pub layer_text : UserInputAst-F (List ℕ) → List ℕ
layer_text (Clause pairs) = clause_text pairs
layer_text (Boost text factor) = codes "(" ++ text ++ codes ")^" ++ decimal_text factor.whole factor.fraction
layer_text (Leaf found) = leaf_text found

unfoldable pub debug_text : UserInputAst → List ℕ
debug_text = fold-UserInputAst (List ℕ) layer_text

-- a pair with its tree's text
abbrev pub shown_pair : Option Occur × UserInputAst → Option Occur × List ℕ
shown_pair pair = (pair.0, debug_text pair.1)

-- the same, as a text
abbrev pub whole_pair : Option Occur × UserInputAst → List ℕ
whole_pair pair = mark_text pair.0 ++ debug_text pair.1
