-- Which documents satisfy a tree. Terms stand in the order of their bytes, a proper prefix first.
use Rattle.std.specs.Prelude.{ℕ, Bool, true, false, not, ◌&&◌, ◌||◌, ◌==◌, List, [], ◌∷◌, length, map, filter, Option, Some, unwrap_or, nat_eq, if◌then◌else◌}
use Rattle.std.specs.List.{list_all, list_any, starts_with}
use Rattle.owned_bytes.specs.Keys as keys
use Rattle.query_tree.specs.declared.tree.Occur.{Occur}
use Rattle.query_tree.specs.declared.tree.Occur.TheVariants.{Must, MustNot}
use Rattle.query_tree.specs.declared.tree.UserInputLiteral.{UserInputLiteral}
use Rattle.query_tree.specs.declared.tree.UserInputBound.{UserInputBound}
use Rattle.query_tree.specs.declared.tree.UserInputBound.TheVariants.{Inclusive, Exclusive, Unbounded}
use Rattle.query_tree.specs.declared.tree.UserInputLeaf.{UserInputLeaf}
use Rattle.query_tree.specs.declared.tree.UserInputLeaf.TheVariants as leaf
use Rattle.query_tree.specs.declared.tree.UserInputAst.{UserInputAst, fold-UserInputAst}
use Rattle.query_tree.specs.declared.tree.UserInputAst.TheOpen.{UserInputAst-F, Clause, Boost, Leaf}
use Rattle.documents.specs.declared.documents.Doc.{Doc}
use Rattle.documents.specs.Documents.{holds, holds_where}

-- ---- leaves. One without a field is of the default field.

-- a term is within a bound
abbrev pub is_above : UserInputBound → List ℕ → Bool
is_above (Inclusive text) term = not (keys.is_below term text)
is_above (Exclusive text) term = keys.is_below text term
is_above Unbounded term = true

abbrev pub is_below : UserInputBound → List ℕ → Bool
is_below (Inclusive text) term = not (keys.is_below text term)
is_below (Exclusive text) term = keys.is_below term text
is_below Unbounded term = true

-- A literal without a slop: its whole term, or with `prefix` a term that begins with it. One with a slop is never satisfied, and no
-- search asks for it.
abbrev pub satisfies_literal : Doc → List ℕ → UserInputLiteral → Bool
satisfies_literal doc field literal =
    (literal.slop == 0)
    && (if literal.prefix then holds_where doc field (λ term. starts_with nat_eq term literal.phrase) else holds doc field literal.phrase)

-- A regex is never satisfied, and no search asks for it.
unfoldable pub satisfies_leaf : Doc → List ℕ → UserInputLeaf → Bool
satisfies_leaf doc default (leaf.Literal literal) = satisfies_literal doc (unwrap_or literal.field_name default) literal
satisfies_leaf doc default leaf.All = true
satisfies_leaf doc default (leaf.Range field lower upper) =
    holds_where doc (unwrap_or field default) (λ term. is_above lower term && is_below upper term)
satisfies_leaf doc default (leaf.Set field elements) = list_any (λ element. holds doc (unwrap_or field default) element) elements
satisfies_leaf doc default (leaf.Exists field) = holds_where doc field (λ term. true)
satisfies_leaf doc default (leaf.Regex field pattern) = false

-- ---- clauses

abbrev pub is_must : Option Occur → Bool
is_must (Some Must) = true
is_must _ = false

abbrev pub is_must_not : Option Occur → Bool
is_must_not (Some MustNot) = true
is_must_not _ = false

-- marked with Should, or not marked
abbrev pub is_optional : Option Occur → Bool
is_optional mark = not (is_must mark || is_must_not mark)

-- the answers of the trees whose mark passes the test
abbrev pub answers : (Option Occur → Bool) → List (Option Occur × Bool) → List Bool
answers test pairs = map (λ pair. pair.1) (filter (λ pair. test pair.0) pairs)

abbrev pub all : List Bool → Bool
all = list_all (λ answer. answer)

abbrev pub any : List Bool → Bool
any = list_any (λ answer. answer)

-- all that must be are satisfied, nothing is that must not be, and where nothing must be, something optional is
abbrev pub satisfies_mixed : List (Option Occur × Bool) → Bool
satisfies_mixed pairs =
    all (answers is_must pairs) && not (any (answers is_must_not pairs))
    && (not (length (answers is_must pairs) == 0) || any (answers is_optional pairs))

-- a clause of trees that are satisfied or not: never where it has none, and of MustNot alone where none is satisfied
unfoldable pub satisfies_clause : List (Option Occur × Bool) → Bool
satisfies_clause [] = false
satisfies_clause (pair ∷ pairs) =
    if list_all (λ one. is_must_not one.0) (pair ∷ pairs) then not (any (answers is_must_not (pair ∷ pairs)))
    else satisfies_mixed (pair ∷ pairs)

-- ---- trees

-- a boost changes nothing
abbrev pub satisfies_layer : Doc → List ℕ → UserInputAst-F Bool → Bool
satisfies_layer doc default (Clause pairs) = satisfies_clause pairs
satisfies_layer doc default (Boost answer factor) = answer
satisfies_layer doc default (Leaf found) = satisfies_leaf doc default found

-- the document satisfies the tree
unfoldable pub satisfies : Doc → UserInputAst → List ℕ → Bool
satisfies doc whole default = fold-UserInputAst Bool (satisfies_layer doc default) whole
