-- Which leaves a search takes.
use Rattle.std.specs.Prelude.{◌≡◌, Bool, true, false, ◌==◌, List, Option, Some, None, slice_get, if◌then◌else◌}
use Rattle.std.specs.List.{list_any, filter_map, flat_map}
use Rattle.query_tree.specs.declared.tree.Occur.{Occur}
use Rattle.query_tree.specs.declared.tree.UserInputLeaf.{UserInputLeaf}
use Rattle.query_tree.specs.declared.tree.UserInputLeaf.TheVariants as leaf
use Rattle.query_tree.specs.declared.tree.UserInputAst.{UserInputAst}
use Rattle.term_search.specs.Search.{leaves_of}
use Rattle.term_search.specs.declared.answer.Kind.{Kind}
use Rattle.term_search.specs.declared.answer.Kind.TheVariants.{Slop, Regex}
use Rattle.term_search.specs.declared.obstacles.Obstacles.{Obstacles}

-- what of a leaf no search takes: a phrase with a slop, or a regex
abbrev pub unsupported_in : UserInputLeaf → Option Kind
unsupported_in (leaf.Literal literal) = if literal.slop == 0 then None else Some Slop
unsupported_in leaf.All = None
unsupported_in (leaf.Range field lower upper) = None
unsupported_in (leaf.Set field elements) = None
unsupported_in (leaf.Exists field) = None
unsupported_in (leaf.Regex field pattern) = Some Regex

-- that of the first leaf that has any
abbrev pub first_among : List UserInputLeaf → Option Kind
first_among leaves = slice_get (filter_map unsupported_in leaves) 0

abbrev pub first_unsupported : UserInputAst → Option Kind
first_unsupported tree = first_among (leaves_of tree)

abbrev pub IsSupported : UserInputAst → Type 0
IsSupported tree = first_unsupported tree ≡ None

-- a leaf that is still to be learned: a prefix, a range, or the existence of a field
abbrev pub is_waiting_leaf : UserInputLeaf → Bool
is_waiting_leaf (leaf.Literal literal) = literal.prefix
is_waiting_leaf leaf.All = false
is_waiting_leaf (leaf.Range field lower upper) = true
is_waiting_leaf (leaf.Set field elements) = false
is_waiting_leaf (leaf.Exists field) = true
is_waiting_leaf (leaf.Regex field pattern) = false

abbrev pub has_waiting_leaf : UserInputAst → Bool
has_waiting_leaf tree = list_any is_waiting_leaf (leaves_of tree)

abbrev pub IsReady : UserInputAst → Type 0
IsReady tree = has_waiting_leaf tree ≡ false

-- ---- in parts of a tree

-- the leaves of the trees of a clause
abbrev pub leaves_among : List (Option Occur × UserInputAst) → List UserInputLeaf
leaves_among pairs = flat_map (λ pair. leaves_of pair.1) pairs

-- some of them is still to be learned
abbrev pub is_waiting_among : List (Option Occur × UserInputAst) → Bool
is_waiting_among pairs = list_any is_waiting_leaf (leaves_among pairs)

abbrev pub first_of : Option Kind → Option Kind → Option Kind
first_of (Some kind) other = Some kind
first_of None other = other

-- what keeps a search from these leaves
pub record Sees (leaves : List UserInputLeaf) (found : Obstacles) : Type 0 where
  pub unsupported : found.unsupported ≡ first_among leaves
  pub waiting : found.waiting ≡ list_any is_waiting_leaf leaves
