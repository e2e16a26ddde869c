-- What a command that is done has appended.
use Rattle.std.specs.Prelude.{◌≡◌, ℕ, List, Option, Some, IfSome, ⊤}
use Rattle.std.specs.Io.KnownBytes.{Appends}
use Rattle.owned_bytes.specs.Outside.{FileState}
use Rattle.query_tree.specs.declared.tree.UserInputAst.{UserInputAst}
use Rattle.query_tree.specs.Answer.{Tree, tree_of}
use Rattle.query_tree.specs.Printing.{Expression}
use Rattle.documents.specs.declared.documents.Doc.{Doc}
use Rattle.printed_queries.specs.Law.{satisfying, meaning, IsPrinted}
use Rattle.index_file.specs.IndexFile.{IsIndexOf}
use Rattle.term_index.specs.declared.outcome.Outcome.{Outcome}
use Rattle.term_index.specs.declared.outcome.Outcome.TheVariants.{Done}
use Rattle.term_index.specs.Commands.{Command, build, search, ask, tree, IfCommand}
use Rattle.term_index.specs.Reading.{docs_of}
use Rattle.term_index.specs.Printing.{lines, tree_line}

-- what holds of the documents that told bytes spell
abbrev pub OfDocuments : Option (List ℕ) → (List Doc → Type 0) → Type 0
OfDocuments left P = IfSome left (λ bytes. (docs : List Doc) × (docs_of bytes ≡ Some docs) × P docs)

-- what holds of all documents of which a told file is an index
abbrev pub OfIndexed : Option (List ℕ) → (List Doc → Type 0) → Type 0
OfIndexed file P = IfSome file (λ bytes. (docs : List Doc) → IsIndexOf bytes docs → P docs)

-- a file that is an index of the documents
pub record AppendsIndexOf (docs : List Doc) (old new : Option (List ℕ)) : Type 0 where
  pub file : List ℕ
  pub index : IsIndexOf file docs
  pub appended : Appends old new file

-- The lines of the ascending numbers of the documents that satisfy the query's tree. Where the query is a printed plain expression
-- they are the lines of those that mean it.
pub record AppendsNumbers (query field : List ℕ) (old new : Option (List ℕ)) (docs : List Doc) : Type 0 where
  pub tree : UserInputAst
  pub tree_is : tree_of query ≡ Tree tree
  pub satisfying : Appends old new (lines (satisfying docs tree field))
  pub meaning : (e : Expression) → IsPrinted query e → Appends old new (lines (meaning docs e))

-- the line of the query's tree
pub record AppendsTree (query : List ℕ) (old new : Option (List ℕ)) : Type 0 where
  pub tree : UserInputAst
  pub tree_is : tree_of query ≡ Tree tree
  pub appended : Appends old new (tree_line tree)

-- what the command has appended to the store
abbrev pub CommandBuilt : Option (List ℕ) → Option (List ℕ) → Option (List ℕ) → Command → Type 0
CommandBuilt left old new (build path pages) = OfDocuments left (λ docs. AppendsIndexOf docs old new)
CommandBuilt left old new _ = ⊤

-- what it has appended to the output
abbrev pub CommandFound : Option (List ℕ) → FileState → Option (List ℕ) → Option (List ℕ) → Command → Type 0
CommandFound left file old new (search path field query) = OfIndexed file.contents (AppendsNumbers query field old new)
CommandFound left file old new (ask field query) = OfDocuments left (AppendsNumbers query field old new)
CommandFound left file old new (tree query) = AppendsTree query old new
CommandFound left file old new _ = ⊤

-- the same of words, where they are a command and it is done
abbrev pub Built : List (List ℕ) → Outcome → Option (List ℕ) → Option (List ℕ) → Option (List ℕ) → Type 0
Built words outcome left old new = outcome ≡ Done → IfCommand words (CommandBuilt left old new)

abbrev pub Found : List (List ℕ) → Outcome → Option (List ℕ) → FileState → Option (List ℕ) → Option (List ℕ) → Type 0
Found words outcome left file old new = outcome ≡ Done → IfCommand words (CommandFound left file old new)
