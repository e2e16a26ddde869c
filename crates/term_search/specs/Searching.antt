-- What a search answers.
use Rattle.std.specs.Prelude.{◌≡◌, ◌≢◌, ℕ, ◌+◌, ◌*◌, ◌<◌, ◌≤◌, List, length, true, false, Option, Some, None, Result, Ok, Err, ⊤, ◌⊎◌}
use Rattle.owned_bytes.specs.Outside.{FileState}
use Rattle.query_tree.specs.declared.tree.UserInputAst.{UserInputAst}
use Rattle.query_tree.specs.Grammar.{max_levels}
use Rattle.query_tree.specs.Answer as grammar
use Rattle.query_tree.specs.Answer.{tree_of}
use Rattle.query_tree.specs.Printing as printing
use Rattle.sstable_format.specs.Version.{version_of, is_known}
use Rattle.sstable_format.specs.Refused.{is_compressed_at}
use Rattle.documents.specs.declared.documents.Doc.{Doc}
use Rattle.printed_queries.specs.Satisfies.{satisfies}
use Rattle.printed_queries.specs.Meaning.{means}
use Rattle.printed_queries.specs.Law.{IsPrinted, AnswersPrinted, satisfying}
use Rattle.index_file.specs.IndexFile.{table_of, IsIndexOf}
use Rattle.index_file.specs.Opening.{CanBeOpened, IsDamaged}
use Rattle.term_search.specs.Search.{units, asked, cost}
use Rattle.term_search.specs.Leaves.{first_unsupported, IsSupported, has_waiting_leaf, IsReady}
use Rattle.term_search.specs.declared.answer.Kind.{Kind}
use Rattle.term_search.specs.declared.answer.Answer.{Answer}
use Rattle.term_search.specs.declared.answer.SearchError.{SearchError}
use Rattle.term_search.specs.declared.answer.SearchError.TheVariants.{Memory, Query, TooDeep, Unsupported, NotYet, Version, Corrupt, Compressed, Read}

-- ---- by the query

-- the query is this tree, of which a search takes every leaf
pub record IsTaken (query : List ℕ) (tree : UserInputAst) : Type 0 where
  pub tree_is : tree_of query ≡ grammar.Tree tree
  pub supported : IsSupported tree

-- and there is none that is still to be learned
pub record IsSearched (query : List ℕ) (tree : UserInputAst) : Type 0 where
  pub taken : IsTaken query tree
  pub ready : IsReady tree

-- the query is a tree that is searched for
abbrev pub CanBeSearched : List ℕ → Type 0
CanBeSearched query = (tree : UserInputAst) × IsSearched query tree

-- the query is a tree with a leaf that is still to be learned
abbrev pub IsOfLater : List ℕ → Type 0
IsOfLater query = (tree : UserInputAst) × IsTaken query tree × (has_waiting_leaf tree ≡ true)

-- the query is a tree whose first leaf that no search takes is of this kind
abbrev pub IsUnsupported : List ℕ → Kind → Type 0
IsUnsupported query kind = (tree : UserInputAst) × (tree_of query ≡ grammar.Tree tree) × (first_unsupported tree ≡ Some kind)

-- What an answer tells of its query. One that is refused has no other answer, but for want of memory.
abbrev pub AnswersQuery : List ℕ → Result Answer SearchError → Type 0
AnswersQuery query (Ok answer) = IsSearched query answer.tree
AnswersQuery query (Err Memory) = ⊤
AnswersQuery query (Err (Query error)) = tree_of query ≡ grammar.Refused
AnswersQuery query (Err TooDeep) = tree_of query ≡ grammar.TooDeep
AnswersQuery query (Err (Unsupported kind)) = IsUnsupported query kind
AnswersQuery query (Err NotYet) = IsOfLater query
AnswersQuery query (Err (Version version)) = CanBeSearched query
AnswersQuery query (Err Corrupt) = CanBeSearched query
AnswersQuery query (Err (Compressed place)) = CanBeSearched query
AnswersQuery query (Err Read) = CanBeSearched query

-- what the reading of a query tells of it
abbrev pub ReadsQuery : List ℕ → Result UserInputAst SearchError → Type 0
ReadsQuery query (Ok tree) = IsSearched query tree
ReadsQuery query (Err Memory) = ⊤
ReadsQuery query (Err (Query error)) = tree_of query ≡ grammar.Refused
ReadsQuery query (Err TooDeep) = tree_of query ≡ grammar.TooDeep
ReadsQuery query (Err (Unsupported kind)) = IsUnsupported query kind
ReadsQuery query (Err NotYet) = IsOfLater query
ReadsQuery query (Err (Version version)) = ⊥
ReadsQuery query (Err Corrupt) = ⊥
ReadsQuery query (Err (Compressed place)) = ⊥
ReadsQuery query (Err Read) = ⊥

-- What an answer tells of a printed plain expression. Each document satisfies the answer's tree exactly where it means the
-- expression, whatever the default field is. The expression is never refused, and too deep exactly past the greatest depth.
abbrev pub AnswersExpression : List ℕ → Result Answer SearchError → Type 0
AnswersExpression query (Ok answer) = (e : printing.Expression) → IsPrinted query e
    → (printing.depth e ≤ max_levels) × ((doc : Doc) (default : List ℕ) → satisfies doc answer.tree default ≡ means doc e)
AnswersExpression query (Err (Query error)) = (e : printing.Expression) → IsPrinted query e → ⊥
AnswersExpression query (Err TooDeep) = (e : printing.Expression) → IsPrinted query e → max_levels < printing.depth e
AnswersExpression query (Err _) = ⊤

-- ---- by the file

-- Its numbers are those of the documents of which the file is an index: of those that satisfy the tree, and, where the query
-- is a printed plain expression, of those that mean it.
pub record FindsDocuments (file query default : List ℕ) (answer : Answer) : Type 0 where
  pub opened : CanBeOpened file
  pub satisfying : (docs : List Doc) → IsIndexOf file docs → answer.ids ≡ satisfying docs answer.tree default
  pub meaning : (docs : List Doc) → IsIndexOf file docs → AnswersPrinted docs query answer.ids

-- What an answer tells of its file.
abbrev pub AnswersFile : List ℕ → List ℕ → List ℕ → Result Answer SearchError → Type 0
AnswersFile file query default (Ok answer) = FindsDocuments file query default answer
AnswersFile file query default (Err (Version version)) = (version_of file ≡ Some version) × (is_known version ≡ false)
AnswersFile file query default (Err Corrupt) = IsDamaged file
AnswersFile file query default (Err (Compressed place)) = IsDamaged file × (is_compressed_at place file ≡ true)
AnswersFile file query default (Err _) = ⊤

-- the same, where the contents are told
abbrev pub AnswersTold : Option (List ℕ) → List ℕ → List ℕ → Result Answer SearchError → Type 0
AnswersTold None query default result = ⊤
AnswersTold (Some file) query default result = AnswersFile file query default result

-- what the numbers that were found for a tree tell of the file
abbrev pub FindsNumbers : List ℕ → UserInputAst → List ℕ → Result (List ℕ) SearchError → Type 0
FindsNumbers file tree default (Ok ids) = CanBeOpened file × ((docs : List Doc) → IsIndexOf file docs → ids ≡ satisfying docs tree default)
FindsNumbers file tree default (Err (Version version)) = (version_of file ≡ Some version) × (is_known version ≡ false)
FindsNumbers file tree default (Err Corrupt) = IsDamaged file
FindsNumbers file tree default (Err (Compressed place)) = IsDamaged file × (is_compressed_at place file ≡ true)
FindsNumbers file tree default (Err _) = ⊤

abbrev pub FindsNumbersTold : Option (List ℕ) → UserInputAst → List ℕ → Result (List ℕ) SearchError → Type 0
FindsNumbersTold None tree default result = ⊤
FindsNumbersTold (Some file) tree default result = FindsNumbers file tree default result

-- no refusal of a query, and not for a leaf that is still to be learned
abbrev pub IsOfFile : SearchError → Type 0
IsOfFile NotYet = ⊥
IsOfFile (Query error) = ⊥
IsOfFile TooDeep = ⊥
IsOfFile (Unsupported kind) = ⊥
IsOfFile _ = ⊤

-- the told contents are a file that has a table and can be opened
abbrev pub IsWhole : Option (List ℕ) → Type 0
IsWhole None = ⊥
IsWhole (Some file) = (table_of file ≢ None) × CanBeOpened file

-- an answer, but for want of memory and a fault
abbrev pub IsAnsweredOrRead : Result Answer SearchError → Type 0
IsAnsweredOrRead (Ok answer) = ⊤
IsAnsweredOrRead (Err error) = (error ≡ Memory) ⊎ (error ≡ Read)

-- damaged, but for want of memory
abbrev pub IsDamagedOrMemory : Result Answer SearchError → Type 0
IsDamagedOrMemory (Ok answer) = ⊥
IsDamagedOrMemory (Err error) = (error ≡ Memory) ⊎ (error ≡ Corrupt)

-- ---- what is read

-- The count of reads rises by at most 4 and two for each that the tree asks the file for, and so by at most 4 and two for each
-- unit of the tree.
pub record ReadsFor (query default : List ℕ) (before now : FileState) : Type 0 where
  pub asked : (tree : UserInputAst) → tree_of query ≡ grammar.Tree tree → now.reads ≤ before.reads + (4 + 2 * length (asked tree default))
  pub within : (tree : UserInputAst) → tree_of query ≡ grammar.Tree tree → now.reads ≤ before.reads + (4 + 2 * units tree)

-- On a told file with a table the count of bytes rises by at most what the search may cost.
abbrev pub Fetches : List ℕ → List ℕ → FileState → FileState → Type 0
Fetches query default before now = (file : List ℕ) (tree : UserInputAst) (most : ℕ) → before.contents ≡ Some file → table_of file ≢ None
    → tree_of query ≡ grammar.Tree tree → cost file tree default ≡ Some most → now.fetched ≤ before.fetched + most

-- the same of the search for a tree
abbrev pub FetchesTree : UserInputAst → List ℕ → FileState → FileState → Type 0
FetchesTree tree default before now = (file : List ℕ) (most : ℕ) → before.contents ≡ Some file → table_of file ≢ None
    → cost file tree default ≡ Some most → now.fetched ≤ before.fetched + most
