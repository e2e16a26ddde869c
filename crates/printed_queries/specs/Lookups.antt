-- What is looked for in the leaves of a tree.
use Rattle.std.specs.Prelude.{◌≡◌, ◌≢◌, ℕ, Bool, true, ◌&&◌, ◌==◌, List, [], ◌∷◌, map, unwrap_or, nat_eq, bytes_eq, if◌then◌else◌}
use Rattle.std.specs.List.{list_any, starts_with}
use Rattle.query_tree.specs.declared.tree.UserInputLiteral.{UserInputLiteral}
use Rattle.query_tree.specs.declared.tree.UserInputLeaf.{UserInputLeaf}
use Rattle.query_tree.specs.declared.tree.UserInputLeaf.TheVariants as leaf
use Rattle.documents.specs.declared.documents.Doc.{Doc}
use Rattle.documents.specs.Documents.{holds_where}
use Rattle.printed_queries.specs.Satisfies.{is_above, is_below, satisfies_leaf}

-- What is looked for at once: terms of one field that pass a test.
pub record Lookup : Type 0 where
  pub field : List ℕ
  pub takes : List ℕ → Bool

abbrev pub takes_literal : UserInputLiteral → List ℕ → Bool
takes_literal literal term =
    (literal.slop == 0) && (if literal.prefix then starts_with nat_eq term literal.phrase else bytes_eq term literal.phrase)

-- what is looked for in a leaf: once for a literal, a range and an existence, and once for each element of a set
unfoldable pub lookups_of_leaf : List ℕ → UserInputLeaf → List Lookup
lookups_of_leaf default (leaf.Literal literal) = record { field = unwrap_or literal.field_name default; takes = takes_literal literal } ∷ []
lookups_of_leaf default leaf.All = []
lookups_of_leaf default (leaf.Range field lower upper) =
    record { field = unwrap_or field default; takes = λ term. is_above lower term && is_below upper term } ∷ []
lookups_of_leaf default (leaf.Set field elements) =
    map (λ element. record { field = unwrap_or field default; takes = λ term. bytes_eq term element }) elements
lookups_of_leaf default (leaf.Exists field) = record { field = field; takes = λ term. true } ∷ []
lookups_of_leaf default (leaf.Regex field pattern) = []

-- the document holds a pair that is looked for
abbrev pub is_found : Doc → List Lookup → Bool
is_found doc lookups = list_any (λ wanted. holds_where doc wanted.field wanted.takes) lookups

-- A document satisfies a leaf exactly where it holds a pair that is looked for in it, but All, in which nothing is looked for.
abbrev pub LeafIsLookedUp : Type 0
LeafIsLookedUp = (doc : Doc) (default : List ℕ) (found : UserInputLeaf) → found ≢ leaf.All → satisfies_leaf doc default found ≡ is_found doc (lookups_of_leaf default found)
