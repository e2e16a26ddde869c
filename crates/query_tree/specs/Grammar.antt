-- The names of the grammar, from the smallest up to a whole query.
use Rattle.std.specs.Prelude.{ℕ, zero, suc, ◌+◌, ◌-◌, ◌*◌, ◌^◌, Bool, true, false, ◌&&◌, ◌==◌, nat_lt, if◌then◌else◌, List, [], ◌∷◌, ◌++◌, length, fold, Option, Some, None, codes, encode_utf8}
use Rattle.std.specs.Char.{is_ascii_digit}
use Rattle.std.specs.List.{list_any}
use Rattle.std.specs.Str.{bytes_eq}
use Rattle.query_tree.specs.declared.tree.Occur.{Occur}
use Rattle.query_tree.specs.declared.tree.Occur.TheVariants as occur
use Rattle.query_tree.specs.declared.tree.Delimiter.{Delimiter}
use Rattle.query_tree.specs.declared.tree.Delimiter.TheVariants as delimiter
use Rattle.query_tree.specs.declared.tree.UserInputBound.{UserInputBound}
use Rattle.query_tree.specs.declared.tree.UserInputBound.TheVariants.{Inclusive, Exclusive, Unbounded}
use Rattle.query_tree.specs.declared.tree.UserInputLeaf.{UserInputLeaf}
use Rattle.query_tree.specs.declared.tree.UserInputLeaf.TheVariants.{Literal, All, Range, Set, Regex}
use Rattle.query_tree.specs.declared.tree.UserInputAst.{UserInputAst}
use Rattle.query_tree.specs.declared.tree.UserInputAst.TheVariants.{Clause, Boost, Leaf}
use Rattle.query_tree.specs.declared.item.Operand.{Operand}
use Rattle.query_tree.specs.declared.item.Operand.TheVariants.{And, Or}
use Rattle.query_tree.specs.declared.item.Item.{Item}
use Rattle.query_tree.specs.Characters.{minus, plus, dot, star, slash, colon, caret, tilde, backslash, single_quote, double_quote, backquote, opening, closing, open_square, close_square, open_brace, close_brace, is_any, is_other_than, is_space, is_special, is_after_star, is_after_regex, is_field_character, is_word_character, is_bound_character, is_unescaped_in_word}
use Rattle.query_tree.specs.Reader.{Found, Deep, skip, Reader, ◌>>=◌, ◌>>◌, ◌<$>◌, ◌or◌, pure, fail, optional, one, taken, char, tag, end, before, repeated, joined, listed_after}
use Rattle.query_tree.specs.Decimals.{Digits, trimmed_decimal}
use Rattle.query_tree.specs.Aggregation.{negated, aggregated}
use Rattle.query_tree.specs.Rewriting.{with_field, under_field}

-- ---- spaces

-- ws*
abbrev pub spaces : Reader (Unit {0})
spaces = λ text. Found tt (skip is_space text)

-- ws+
abbrev pub some_spaces : Reader (Unit {0})
some_spaces = taken is_space >> spaces

-- ---- pieces of texts: what one character gives, or a backslash and a character

-- a backslash and a character that passes the test, which it gives
abbrev pub pair : (ℕ → Bool) → Reader ℕ
pair test = one (λ c. c == backslash) >> one test

abbrev pub spelled : Reader ℕ → Reader (List ℕ)
spelled p = encode_utf8 <$> p

abbrev pub quoted_piece : ℕ → Reader (List ℕ)
quoted_piece quote = spelled (pair is_any) or spelled (one (is_other_than quote))

abbrev pub field_first : Reader (List ℕ)
field_first = spelled (one (λ c. is_field_character c && is_other_than minus c)) or spelled (pair is_special)

abbrev pub field_piece : Reader (List ℕ)
field_piece = spelled (one is_field_character) or spelled (pair is_special) or spelled (one (λ c. c == backslash))

abbrev pub regex_piece : Reader (List ℕ)
regex_piece = spelled (pair (λ c. c == slash)) or spelled (one (is_other_than slash))

abbrev pub bound_piece : Reader (List ℕ)
bound_piece = spelled (one is_bound_character)

abbrev pub bound_first : Reader (List ℕ)
bound_first = spelled (one (λ c. is_bound_character c && is_other_than backquote c))

-- the character alone where it is white, ESC or a minus, else both
abbrev pub pair_in_word : ℕ → List ℕ
pair_in_word c = if is_unescaped_in_word c then encode_utf8 c else backslash ∷ encode_utf8 c

abbrev pub pair_word : Reader (List ℕ)
pair_word = pair_in_word <$> pair is_any

abbrev pub word_piece : Reader (List ℕ)
word_piece = pair_word or spelled (one is_word_character)

abbrev pub word_first : Reader (List ℕ)
word_first = pair_word or spelled (one (λ c. is_word_character c && is_other_than minus c))

abbrev pub digit : Reader (List ℕ)
digit = spelled (one is_ascii_digit)

-- a first piece, and then as many others as succeed
abbrev pub started : Reader (List ℕ) → Reader (List ℕ) → Reader (List ℕ)
started first_piece other_piece = do
  first ← first_piece
  others ← joined other_piece
  pure (first ++ others)

-- one or more
unfoldable pub digits : Reader (List ℕ)
digits = started digit digit

abbrev pub dot_and_digits : Reader (List ℕ)
dot_and_digits = char dot >> digits

-- a dot and digits, or nothing
unfoldable pub fraction : Reader (Option (List ℕ))
fraction = optional dot_and_digits

abbrev pub fraction_text : Option (List ℕ) → List ℕ
fraction_text None = []
fraction_text (Some ds) = dot ∷ ds

-- ---- words and terms

-- A letter keeps the backslash in front of it, so a word that gives one of these is spelled just so.
abbrev pub is_reserved : List ℕ → Bool
is_reserved text = list_any (bytes_eq text) (codes "OR" ∷ codes "AND" ∷ codes "NOT" ∷ codes "IN" ∷ [])

unfoldable pub word : Reader (List ℕ)
word = do
  text ← started word_first word_piece
  if is_reserved text then fail else pure text

abbrev pub negative_text : List ℕ → Option (List ℕ) → List ℕ
negative_text whole after_dot = minus ∷ whole ++ fraction_text after_dot

unfoldable pub negative_number : Reader (List ℕ)
negative_number = do
  char minus
  whole ← digits
  after_dot ← fraction
  pure (negative_text whole after_dot)

unfoldable pub quoted : ℕ → Reader (List ℕ)
quoted quote = do
  char quote
  text ← joined (quoted_piece quote)
  char quote
  pure text

abbrev pub delimited : Delimiter → List ℕ → Delimiter × List ℕ
delimited d text = (d, text)

unfoldable pub simple_term : Reader (Delimiter × List ℕ)
simple_term =
    delimited delimiter.None <$> negative_number
    or delimited delimiter.SingleQuotes <$> quoted single_quote
    or delimited delimiter.DoubleQuotes <$> quoted double_quote
    or delimited delimiter.None <$> word

-- the number that digits write
abbrev pub next_number : ℕ → ℕ → ℕ
next_number n digit = 10 * n + (digit - 48)

abbrev pub number : List ℕ → ℕ
number = fold next_number 0

-- the number, where it is below 2 ^ 32
unfoldable pub small_number : List ℕ → Option ℕ
small_number digits = if nat_lt (number digits) (2 ^ 32) then Some (number digits) else None

abbrev pub given : {A : Type 0} → Option A → Reader A
given (Some x) = pure x
given None = fail

unfoldable pub slop : Reader ℕ
slop = do
  char tilde
  ds ← digits
  given (small_number ds)

-- the slop, and whether a prefix is meant
unfoldable pub term_end : Reader (ℕ × Bool)
term_end =
    (char star >> pure (0, true))
    or (λ n. (n, false)) <$> slop
    or pure (0, false)

unfoldable pub term : Reader UserInputLeaf
term = do
  t ← simple_term
  e ← term_end
  pure (Literal (record { field_name = None; phrase = t.1; delimiter = t.0; slop = e.0; prefix = e.1 }))

-- ---- ranges, sets, existence and patterns

unfoldable pub bound : Reader (List ℕ)
bound = negative_number or started bound_first bound_piece

abbrev pub at_least : List ℕ → UserInputLeaf
at_least text = Range None (Inclusive text) Unbounded

abbrev pub at_most : List ℕ → UserInputLeaf
at_most text = Range None Unbounded (Inclusive text)

abbrev pub below : List ℕ → UserInputLeaf
below text = Range None Unbounded (Exclusive text)

abbrev pub above : List ℕ → UserInputLeaf
above text = Range None (Exclusive text) Unbounded

-- `>=`, `<=`, `<` or `>`: what it makes of the bound behind it
unfoldable pub sign : Reader (List ℕ → UserInputLeaf)
sign =
    (tag (codes ">=") >> pure at_least)
    or (tag (codes "<=") >> pure at_most)
    or (tag (codes "<") >> pure below)
    or (tag (codes ">") >> pure above)

-- The first sign that stands there counts, whatever follows it.
unfoldable pub half_range : Reader UserInputLeaf
half_range = do
  spaces
  range_of ← sign
  spaces
  text ← bound
  pure (range_of text)

-- a square bracket includes its bound
abbrev pub bounded : Bool → List ℕ → UserInputBound
bounded is_inclusive text = if bytes_eq text (codes "*") then Unbounded else (if is_inclusive then Inclusive text else Exclusive text)

-- whether the bracket is a square one
unfoldable pub bracket : ℕ → ℕ → Reader Bool
bracket square brace = (char square >> pure true) or (char brace >> pure false)

unfoldable pub full_range : Reader UserInputLeaf
full_range = do
  is_lower_inclusive ← bracket open_square open_brace
  spaces
  lower ← bound
  some_spaces
  tag (codes "TO")
  some_spaces
  upper ← bound
  spaces
  is_upper_inclusive ← bracket close_square close_brace
  pure (Range None (bounded is_lower_inclusive lower) (bounded is_upper_inclusive upper))

unfoldable pub range : Reader UserInputLeaf
range = half_range or full_range

abbrev pub next_element : Reader (List ℕ)
next_element = some_spaces >> (λ t. t.1) <$> simple_term

abbrev pub first_element : Reader (List ℕ)
first_element = (λ t. t.1) <$> simple_term

-- simple terms with ws+ between, or none
unfoldable pub elements : Reader (List (List ℕ))
elements = do
  found ← optional first_element
  listed_after found (repeated next_element)

unfoldable pub set : Reader UserInputLeaf
set = do
  spaces
  tag (codes "IN")
  some_spaces
  char open_square
  spaces
  found ← elements
  char close_square
  pure (Set None found)

-- a star that stands for all
unfoldable pub star_alone : Reader UserInputLeaf
star_alone = char star >> before is_after_star >> pure All

-- All, until a field is put in
unfoldable pub exists : Reader UserInputLeaf
exists = spaces >> star_alone

unfoldable pub regex : Reader UserInputLeaf
regex = do
  char slash
  pattern ← started regex_piece regex_piece
  char slash
  before is_after_regex
  pure (Regex None pattern)

unfoldable pub field : Reader (List ℕ)
field = do
  name ← started field_first field_piece
  spaces
  char colon
  spaces
  pure name

-- ---- leaves, items and trees

unfoldable pub bare_leaf : Reader UserInputLeaf
bare_leaf = range or set or exists or regex or term

unfoldable pub plain_leaf : Reader UserInputLeaf
plain_leaf = do
  name ← optional field
  found ← bare_leaf
  pure (with_field name found)

unfoldable pub boost : Reader Digits
boost = do
  char caret
  whole ← digits
  after_dot ← fraction
  pure (trimmed_decimal whole after_dot)

abbrev pub is_one : Digits → Bool
is_one d = bytes_eq d.whole (codes "1") && length d.fraction == 0

-- a boost of 1 is dropped
unfoldable pub boosted : UserInputAst → Option Digits → UserInputAst
boosted tree None = tree
boosted tree (Some d) = if is_one d then tree else Boost tree d

unfoldable pub mark : Reader Occur
mark = (char minus >> pure occur.MustNot) or (char plus >> pure occur.Must)

unfoldable pub operand : Reader Operand
operand = (tag (codes "AND ") >> pure And) or (tag (codes "OR ") >> pure Or)

-- ---- leaves. What a leaf encloses, a tree or another leaf, is read one level further in.

unfoldable pub parenthesized : Reader UserInputAst → Reader UserInputAst
parenthesized enclosed = do
  char opening
  tree ← enclosed
  char closing
  pure tree

unfoldable pub negation : Reader UserInputAst → Reader UserInputAst
negation enclosed = tag (codes "NOT") >> some_spaces >> negated <$> enclosed

-- a field for a whole tree
unfoldable pub field_group : Reader UserInputAst → Reader UserInputAst
field_group enclosed = do
  name ← field
  spaces
  char opening
  spaces
  tree ← enclosed
  char closing
  pure (under_field name tree)

unfoldable pub leaf_enclosing : Reader UserInputAst → Reader UserInputAst → Reader UserInputAst
leaf_enclosing tree inner_leaf =
    parenthesized tree
    or Leaf <$> star_alone
    or negation inner_leaf
    or Leaf <$> plain_leaf
    or field_group tree

-- ---- items and trees, over the reader of leaves

module _ (leaf : Reader UserInputAst) where
  unfoldable pub item_after : Option Operand → Reader Item
  item_after before = do
    occur ← optional mark
    tree ← leaf
    factor ← optional boost
    pure (record { operand = before; mark = occur; tree = boosted tree factor })

  unfoldable pub next_item : Reader Item
  next_item = do
    before ← optional operand
    spaces
    found ← item_after before
    spaces
    pure found

  unfoldable pub next_items : Reader (List Item)
  next_items = do
    some_spaces
    first ← next_item
    others ← repeated next_item
    pure (first ∷ others)

  unfoldable pub ast_of_leaves : Reader UserInputAst
  ast_of_leaves = do
    spaces
    first ← item_after None
    others ← (next_items or pure [])
    spaces
    pure (aggregated first others)

-- With so many levels still to open: 128 for a whole query, and one less inside each that is open. Where none is left, what would open one is Deep.
-- That is said here, once. The two names below it, `enclosed_leaf` and `enclosed_tree`, say it again for contracts alone.
unfoldable pub leaf : ℕ → Reader UserInputAst
leaf zero = leaf_enclosing (λ _. Deep) (λ _. Deep)
leaf (suc levels) = leaf_enclosing (ast_of_leaves (leaf levels)) (leaf levels)

abbrev pub ast : ℕ → Reader UserInputAst
ast levels = ast_of_leaves (leaf levels)

-- What one more level encloses, for contracts: `leaf levels` is `leaf_enclosing (enclosed_tree levels) (enclosed_leaf levels)`.
unfoldable pub enclosed_leaf : ℕ → Reader UserInputAst
enclosed_leaf zero = λ _. Deep
enclosed_leaf (suc levels) = leaf levels

unfoldable pub enclosed_tree : ℕ → Reader UserInputAst
enclosed_tree zero = λ _. Deep
enclosed_tree (suc levels) = ast levels

abbrev pub max_levels : ℕ
max_levels = 128

-- no tree gives the empty clause
abbrev pub tree_or_empty : Option UserInputAst → UserInputAst
tree_or_empty None = Clause []
tree_or_empty (Some tree) = tree

unfoldable pub query : Reader UserInputAst
query = do
  spaces
  found ← optional (ast max_levels)
  end
  pure (tree_or_empty found)
