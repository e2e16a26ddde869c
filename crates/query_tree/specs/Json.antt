-- The JSON of a tree.
use Rattle.std.specs.Prelude.{ℕ, true, false, Bool, List, [], ◌∷◌, ◌++◌, map, Option, Some, None, codes}
use Rattle.std.specs.List.{join_with_byte}
use Rattle.std.specs.Fmt.{decimal}
use Rattle.json.specs.Print.{quoted}
use Rattle.query_tree.specs.declared.tree.Occur.{Occur}
use Rattle.query_tree.specs.declared.tree.Occur.TheVariants as occur
use Rattle.query_tree.specs.declared.tree.Delimiter.{Delimiter}
use Rattle.query_tree.specs.declared.tree.Delimiter.TheVariants as delimiter
use Rattle.query_tree.specs.declared.tree.UserInputBound.{UserInputBound}
use Rattle.query_tree.specs.declared.tree.UserInputBound.TheVariants.{Inclusive, Exclusive, Unbounded}
use Rattle.query_tree.specs.declared.tree.UserInputLiteral.{UserInputLiteral}
use Rattle.query_tree.specs.declared.tree.UserInputLeaf.{UserInputLeaf}
use Rattle.query_tree.specs.declared.tree.UserInputLeaf.TheVariants as leaf
use Rattle.query_tree.specs.declared.tree.UserInputAst.{UserInputAst, fold-UserInputAst}
use Rattle.query_tree.specs.declared.tree.UserInputAst.TheOpen.{UserInputAst-F, Clause, Boost, Leaf}

-- "name":value
abbrev pub member : List ℕ → List ℕ → List ℕ
member name value = codes "\"" ++ name ++ codes "\":" ++ value

abbrev pub commas : List (List ℕ) → List ℕ
commas texts = join_with_byte 44 texts

-- an object of this type, with these members behind it
abbrev pub object : List ℕ → List (List ℕ) → List ℕ
object type members = codes "{" ++ commas (member (codes "type") (quoted type) ∷ members) ++ codes "}"

abbrev pub array : List (List ℕ) → List ℕ
array members = codes "[" ++ commas members ++ codes "]"

abbrev pub field_json : Option (List ℕ) → List ℕ
field_json None = codes "null"
field_json (Some field) = quoted field

abbrev pub mark_json : Option Occur → List ℕ
mark_json None = codes "null"
mark_json (Some occur.Should) = codes "\"should\""
mark_json (Some occur.Must) = codes "\"must\""
mark_json (Some occur.MustNot) = codes "\"must_not\""

abbrev pub delimiter_json : Delimiter → List ℕ
delimiter_json delimiter.SingleQuotes = codes "\"single_quotes\""
delimiter_json delimiter.DoubleQuotes = codes "\"double_quotes\""
delimiter_json delimiter.None = codes "\"none\""

abbrev pub bool_json : Bool → List ℕ
bool_json true = codes "true"
bool_json false = codes "false"

abbrev pub bound_json : UserInputBound → List ℕ
bound_json (Inclusive text) = object (codes "inclusive") (member (codes "value") (quoted text) ∷ [])
bound_json (Exclusive text) = object (codes "exclusive") (member (codes "value") (quoted text) ∷ [])
bound_json Unbounded = object (codes "unbounded") []

abbrev pub literal_json : UserInputLiteral → List ℕ
literal_json l = object (codes "literal")
    (member (codes "field_name") (field_json l.field_name) ∷ member (codes "phrase") (quoted l.phrase) ∷ member (codes "delimiter") (delimiter_json l.delimiter)
    ∷ member (codes "slop") (decimal l.slop) ∷ member (codes "prefix") (bool_json l.prefix) ∷ [])

unfoldable pub leaf_json : UserInputLeaf → List ℕ
leaf_json (leaf.Literal l) = literal_json l
leaf_json leaf.All = object (codes "all") []
leaf_json (leaf.Range field lower upper) = object (codes "range") (member (codes "field") (field_json field) ∷ member (codes "lower") (bound_json lower) ∷ member (codes "upper") (bound_json upper) ∷ [])
leaf_json (leaf.Set field elements) = object (codes "set") (member (codes "field") (field_json field) ∷ member (codes "elements") (array (map quoted elements)) ∷ [])
leaf_json (leaf.Exists field) = object (codes "exists") (member (codes "field") (quoted field) ∷ [])
leaf_json (leaf.Regex field pattern) = object (codes "regex") (member (codes "field") (field_json field) ∷ member (codes "pattern") (quoted pattern) ∷ [])

-- a whole number has `.0` behind it
abbrev pub number_json : List ℕ → List ℕ → List ℕ
number_json whole [] = whole ++ codes ".0"
number_json whole (d ∷ ds) = whole ++ codes "." ++ d ∷ ds

-- one layer, where each tree below is its JSON
abbrev pub layer_json : UserInputAst-F (List ℕ) → List ℕ
layer_json (Clause pairs) = object (codes "bool") (member (codes "clauses") (array (map (λ p. array (mark_json p.0 ∷ p.1 ∷ [])) pairs)) ∷ [])
layer_json (Boost text factor) = object (codes "boost") (member (codes "underlying") text ∷ member (codes "boost") (number_json factor.whole factor.fraction) ∷ [])
layer_json (Leaf found) = leaf_json found

unfoldable pub json_text : UserInputAst → List ℕ
json_text = fold-UserInputAst (List ℕ) layer_json
