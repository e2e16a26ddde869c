-- The law of printed expressions.
use Rattle.std.specs.Prelude.{◌≡◌, ℕ, ◌≤◌, ◌<◌, Bool, true, ◌&&◌, List, [], ◌∷◌, Result, Ok, Err}
use lib.Utf8
use Rattle.query_tree.specs.declared.answer.ParseError.{ParseError}
use Rattle.query_tree.specs.declared.answer.ParseError.TheVariants as errors
use Rattle.query_tree.specs.declared.tree.UserInputAst.{UserInputAst}
use Rattle.query_tree.specs.Grammar.{max_levels}
use Rattle.query_tree.specs.Answer.{Answer, Tree, Refused, TooDeep, tree_of}
use Rattle.query_tree.specs.Printing as printing
use Rattle.documents.specs.declared.documents.Doc.{Doc}
use Rattle.documents.specs.Documents.{numbers_where}
use Rattle.printed_queries.specs.Satisfies.{satisfies}
use Rattle.printed_queries.specs.Meaning.{is_plain, means}

-- the texts of the expression are of characters
abbrev pub are_characters : List ℕ → Bool
are_characters = lib.Utf8.scalars

abbrev pub all_of_characters : List (List ℕ) → Bool
all_of_characters [] = true
all_of_characters (text ∷ texts) = are_characters text && all_of_characters texts

abbrev pub bound_of_characters : printing.Bound → Bool
bound_of_characters (printing.Inclusive text) = are_characters text
bound_of_characters (printing.Exclusive text) = are_characters text
bound_of_characters printing.Unbounded = true

unfoldable pub of_characters : printing.Expression → Bool
of_characters (printing.Term field text) = are_characters field && are_characters text
of_characters (printing.Prefix field text) = are_characters field && are_characters text
of_characters (printing.Range field lower upper) = are_characters field && (bound_of_characters lower && bound_of_characters upper)
of_characters (printing.Set field texts) = are_characters field && all_of_characters texts
of_characters (printing.Exists field) = are_characters field
of_characters (printing.Not e) = of_characters e
of_characters (printing.And a b) = of_characters a && of_characters b
of_characters (printing.Or a b) = of_characters a && of_characters b

-- a tree that a doc satisfies exactly where it means the expression, whatever the default field is
abbrev pub MeansAs : printing.Expression → Answer → Type 0
MeansAs e (Tree t) = (doc : Doc) (default : List ℕ) → satisfies doc t default ≡ means doc e
MeansAs e Refused = ⊥
MeansAs e TooDeep = ⊥

abbrev pub PrintedMeansTheSame : Type 0
PrintedMeansTheSame = (e : printing.Expression) → of_characters e ≡ true → is_plain e ≡ true → printing.depth e ≤ max_levels → MeansAs e (tree_of (printing.print e))

abbrev pub PrintedTooDeep : Type 0
PrintedTooDeep = (e : printing.Expression) → of_characters e ≡ true → is_plain e ≡ true → max_levels < printing.depth e → tree_of (printing.print e) ≡ TooDeep

-- ---- what a parser that answers the grammar's tree tells of a query that is a printed plain expression

abbrev pub IsPrinted : List ℕ → printing.Expression → Type 0
IsPrinted query e = (is_plain e ≡ true) × (query ≡ printing.print e)

-- A tree comes exactly up to the greatest depth, and means the same. A printed expression is never refused.
abbrev pub PrintedIsRead : List ℕ → Result UserInputAst ParseError → Type 0
PrintedIsRead query (Ok t) = (e : printing.Expression) → IsPrinted query e → (printing.depth e ≤ max_levels) × ((doc : Doc) (default : List ℕ) → satisfies doc t default ≡ means doc e)
PrintedIsRead query (Err errors.Memory) = Unit {0}
PrintedIsRead query (Err (errors.Refused _)) = (e : printing.Expression) → IsPrinted query e → ⊥
PrintedIsRead query (Err errors.TooDeep) = (e : printing.Expression) → IsPrinted query e → max_levels < printing.depth e

-- ---- the ascending numbers of documents

-- of those that satisfy the tree
abbrev pub satisfying : List Doc → UserInputAst → List ℕ → List ℕ
satisfying docs t default = numbers_where (λ doc. satisfies doc t default) docs

-- of those that satisfy the expression
abbrev pub meaning : List Doc → printing.Expression → List ℕ
meaning docs e = numbers_where (λ doc. means doc e) docs

-- The numbers that a search answers for a query: where the query is a printed plain expression, those of the documents that satisfy it.
abbrev pub AnswersPrinted : List Doc → List ℕ → List ℕ → Type 0
AnswersPrinted docs query ids = (e : printing.Expression) → IsPrinted query e → ids ≡ meaning docs e
