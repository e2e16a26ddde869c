-- Which numbers the set of a tree has, as far as the tree was searched for.
use Rattle.std.specs.Prelude.{◌≡◌, ℕ, ◌+◌, ◌*◌, ◌≤◌, List, [], ◌∷◌, length, map, sum, bytes_eq, Bool, true, ◌&&◌, ◌||◌, Option, Some, None, option_map, unwrap_or, slice_get, ⊤, filter, Result, Ok, Err}
use Rattle.std.specs.List.{list_any, flat_map}
use Rattle.std.specs.declared.ops.Range.{Range}
use Rattle.std.specs.FinSet.{contains, from_list}
use Rattle.owned_bytes.specs.Outside.{FileState, LeavesFile}
use Rattle.index_file.specs.Header.{width_of}
use Rattle.term_search.specs.Search.{lookup_cost, leaves_of}
use Rattle.term_search.specs.Leaves.{leaves_among}
use Rattle.index_reading.specs.declared.open.OpenIndex.{OpenIndex}
use Rattle.index_reading.specs.Opened.{postings_told}
use Rattle.index_reading.specs.declared.errors.IndexError.{IndexError}
use Rattle.index_reading.specs.declared.errors.IndexError.TheVariants as errors
use Rattle.common_bitset.specs.Numbers.{Numbers}
use Rattle.common_bitset.specs.Subset.{Subset}
use Rattle.document_sets.specs.Joined.{Joined}
use Rattle.query_tree.specs.declared.tree.Occur.{Occur}
use Rattle.query_tree.specs.declared.tree.Occur.TheVariants.{Should, Must, MustNot}
use Rattle.query_tree.specs.declared.tree.UserInputLiteral.{UserInputLiteral}
use Rattle.query_tree.specs.declared.tree.UserInputLeaf.{UserInputLeaf}
use Rattle.query_tree.specs.declared.tree.UserInputLeaf.TheVariants.{Literal}
use Rattle.query_tree.specs.declared.tree.UserInputAst.{UserInputAst}
use Rattle.sstable_values.specs.Codec.{range}
use Rattle.sstable_blocks.specs.Run.{Block}
use Rattle.tantivy_sstable.specs.Opened.{blocks_told}
use Rattle.sstable_format.specs.Refused.{is_compressed_at}
use Rattle.documents.specs.declared.documents.Doc.{Doc}
use Rattle.documents.specs.Documents.{AreValidDocuments, holds, is_field}
use Rattle.documents.specs.Postings.{Postings, gather}
use Rattle.printed_queries.specs.Satisfies.{satisfies, satisfies_clause, satisfies_leaf, answers, is_must, is_must_not, is_optional, all, any}
use Rattle.printed_queries.specs.Lookups.{lookups_of_leaf, Lookup}
use Rattle.term_search.specs.declared.answer.SearchError.{SearchError}
use Rattle.term_search.specs.declared.answer.SearchError.TheVariants.{Memory, Query, TooDeep, Unsupported, NotYet, Version, Corrupt, Compressed, Read}

-- a document holds the term in the field, or one of the terms
abbrev pub holds_term : List ℕ → List ℕ → Doc → Bool
holds_term field term = λ doc. holds doc field term

abbrev pub holds_any : List ℕ → List (List ℕ) → Doc → Bool
holds_any field terms = λ doc. list_any (holds doc field) terms

-- a document satisfies the leaf, where a leaf without a field is of the default field
abbrev pub meets_leaf : List ℕ → UserInputLeaf → Doc → Bool
meets_leaf default leaf = λ doc. satisfies_leaf doc default leaf

-- the documents are valid, and what the file tells to the index is what they gather to
pub record AreIndexed (index : OpenIndex) (file : FileState) (docs : List Doc) : Type 0 where
  pub valid : AreValidDocuments docs
  pub told : postings_told index file.contents ≡ Some (gather docs)

-- the elements are the numbers of those of the documents that pass the test
pub record HasThose (docs : List Doc) (test : Doc → Bool) (elements : Numbers) : Type 0 where
  pub each : (i : ℕ) (doc : Doc) → slice_get docs i ≡ Some doc → contains elements i ≡ test doc

-- the set is one of the index's documents, and has those that pass the test
pub record Finds (index : OpenIndex) (file : FileState) (test : Doc → Bool) (found : Subset) : Type 0 where
  pub over : found.max_value ≡ index.documents
  pub those : (docs : List Doc) → AreIndexed index file docs → HasThose docs test found.elements

-- the set has now those of the documents too that pass the test
pub record Adds (index : OpenIndex) (file : FileState) (test : Doc → Bool) (old new : Subset) : Type 0 where
  pub those : (docs : List Doc) → AreIndexed index file docs
      → (i : ℕ) (doc : Doc) → slice_get docs i ≡ Some doc → contains new.elements i ≡ (contains old.elements i || test doc)

-- the numbers, where there are any, are those of the documents that pass the test
pub record Posts (index : OpenIndex) (file : FileState) (test : Doc → Bool) (found : Option (List ℕ)) : Type 0 where
  pub those : (docs : List Doc) → AreIndexed index file docs → HasThose docs test (from_list (unwrap_or found []))

-- the error of an opened index, as one of a search
abbrev pub error_of_index : IndexError → SearchError
error_of_index errors.Memory = Memory
error_of_index errors.Read = Read
error_of_index errors.Corrupt = Corrupt
error_of_index (errors.Compressed place) = Compressed place
error_of_index (errors.Version version) = Version version

-- a compressed block stands at the place, where the contents are told
abbrev pub NamesBlock : Option (List ℕ) → ℕ → Type 0
NamesBlock None place = ⊤
NamesBlock (Some file) place = is_compressed_at place file ≡ true

-- Why a search in an opened index ends: for want of memory or a fault, or since nothing is told that the index has, or at a
-- leaf that is still to be learned.
abbrev pub IsSearchError : OpenIndex → FileState → Bool → SearchError → Type 0
IsSearchError index file waiting Memory = ⊤
IsSearchError index file waiting Read = ⊤
IsSearchError index file waiting NotYet = waiting ≡ true
IsSearchError index file waiting Corrupt = postings_told index file.contents ≡ None
IsSearchError index file waiting (Compressed place) = (postings_told index file.contents ≡ None) × NamesBlock file.contents place
IsSearchError index file waiting (Query error) = ⊥
IsSearchError index file waiting TooDeep = ⊥
IsSearchError index file waiting (Unsupported kind) = ⊥
IsSearchError index file waiting (Version version) = ⊥

-- ---- the sets of a clause, at one document

-- whether the document is in all required sets, and in some excluded or offered one; None where there is no such set
pub record Marks : Type 0 where
  pub required : Option Bool
  pub excluded : Option Bool
  pub offered : Option Bool

abbrev pub marks_at : ℕ → Joined → Marks
marks_at i joined = record {
  required = option_map (λ s. contains s i) joined.required;
  excluded = option_map (λ s. contains s i) joined.excluded;
  offered = option_map (λ s. contains s i) joined.offered;
}

abbrev pub and_then : Option Bool → Bool → Bool
and_then None answer = answer
and_then (Some before) answer = before && answer

abbrev pub or_else : Option Bool → Bool → Bool
or_else None answer = answer
or_else (Some before) answer = before || answer

-- with one more set, which has this mark
abbrev pub with_mark : Marks → Option Occur → Bool → Marks
with_mark marks (Some Must) answer = record marks { required = Some (and_then marks.required answer) }
with_mark marks (Some MustNot) answer = record marks { excluded = Some (or_else marks.excluded answer) }
with_mark marks (Some Should) answer = record marks { offered = Some (or_else marks.offered answer) }
with_mark marks None answer = record marks { offered = Some (or_else marks.offered answer) }

-- all or some of the answers, where there are any
abbrev pub all_if_any : List Bool → Option Bool
all_if_any [] = None
all_if_any (answer ∷ others) = Some (all (answer ∷ others))

abbrev pub any_if_any : List Bool → Option Bool
any_if_any [] = None
any_if_any (answer ∷ others) = Some (any (answer ∷ others))

abbrev pub marks_from : List Bool → List Bool → List Bool → Marks
marks_from musts nots optionals = record { required = all_if_any musts; excluded = any_if_any nots; offered = any_if_any optionals }

abbrev pub marks_of : List (Option Occur × Bool) → Marks
marks_of pairs = marks_from (answers is_must pairs) (answers is_must_not pairs) (answers is_optional pairs)

-- the trees with their marks, as answers for a document
abbrev pub answered : Doc → List ℕ → List (Option Occur × UserInputAst) → List (Option Occur × Bool)
answered doc default pairs = map (λ pair. (pair.0, satisfies doc pair.1 default)) pairs

-- a document satisfies the clause of these trees
abbrev pub meets_clause : List ℕ → List (Option Occur × UserInputAst) → Doc → Bool
meets_clause default pairs = λ doc. satisfies_clause (answered doc default pairs)

-- the sets were joined that the trees have
pub record Joins (index : OpenIndex) (file : FileState) (default : List ℕ) (pairs : List (Option Occur × UserInputAst)) (joined : Joined) : Type 0 where
  pub those : (docs : List Doc) → AreIndexed index file docs
      → (i : ℕ) (doc : Doc) → slice_get docs i ≡ Some doc → marks_at i joined ≡ marks_of (answered doc default pairs)

-- the set was joined that has this mark
abbrev pub AddsMark : Option Occur → Numbers → Joined → Joined → Type 0
AddsMark mark elements old new = (i : ℕ) → marks_at i new ≡ with_mark (marks_at i old) mark (contains elements i)

-- ---- what is asked of the file

-- all that is looked for in leaves
abbrev pub lookups_among : List ℕ → List UserInputLeaf → List Lookup
lookups_among default leaves = flat_map (lookups_of_leaf default) leaves

-- all that is looked for in a literal, and in the trees of a clause
abbrev pub literal_lookups : List ℕ → UserInputLiteral → List Lookup
literal_lookups default literal = lookups_of_leaf default (Literal literal)

abbrev pub clause_lookups : List ℕ → List (Option Occur × UserInputAst) → List Lookup
clause_lookups default pairs = lookups_among default (leaves_among pairs)

-- one term of a field, as what is looked for
abbrev pub lookup_of : List ℕ → List ℕ → Lookup
lookup_of field term = record { field = field; takes = λ found. bytes_eq found term }

-- of all that is looked for, what the file is asked for: a field that no document can have has no term
abbrev pub asked_of : List Lookup → List Lookup
asked_of wanted = filter (λ one. is_field one.field) wanted

-- how many bytes may be fetched for all that is looked for, from an index with these blocks
abbrev pub lookups_cost : OpenIndex → List (Block (Range ℕ)) → List Lookup → ℕ
lookups_cost index blocks wanted = sum (map (lookup_cost (width_of index.documents) blocks) wanted)

-- What a file shows after it was asked for all this: at most two reads for each, and, where the blocks and the postings are
-- told, at most the bytes that looking for all this may cost.
pub record IsAsked (index : OpenIndex) (wanted : List Lookup) (before now : FileState) (failure : Type 0) : Type 0 where
  pub leaves : LeavesFile before now failure
  pub reads : now.reads ≤ before.reads + 2 * length (asked_of wanted)
  pub fetched : (blocks : List (Block (Range ℕ))) (postings : Postings) → blocks_told range index.dictionary before.contents ≡ Some blocks
      → postings_told index before.contents ≡ Some postings → now.fetched ≤ before.fetched + lookups_cost index blocks wanted

-- the search ended with a fault of the file
abbrev pub ReadFailed : {T : Type 0} → Result T SearchError → Type 0
ReadFailed (Ok _) = ⊥
ReadFailed (Err error) = error ≡ Read

-- a search asks the file for all this, and names a fault only where the file failed
abbrev pub Asks : {T : Type 0} → OpenIndex → List Lookup → FileState → FileState → Result T SearchError → Type 0
Asks index wanted before now result = IsAsked index wanted before now (ReadFailed result)

-- ---- a lone literal

-- the literal is the tree's one leaf, and the tree means what it means
pub record IsLone (tree : UserInputAst) (literal : UserInputLiteral) : Type 0 where
  pub leaves : leaves_of tree ≡ Literal literal ∷ []
  pub means : (doc : Doc) (default : List ℕ) → satisfies doc tree default ≡ satisfies_leaf doc default (Literal literal)

-- the same of a clause of these trees
pub record IsLoneIn (pairs : List (Option Occur × UserInputAst)) (literal : UserInputLiteral) : Type 0 where
  pub leaves : leaves_among pairs ≡ Literal literal ∷ []
  pub means : (doc : Doc) (default : List ℕ) → satisfies_clause (answered doc default pairs) ≡ satisfies_leaf doc default (Literal literal)
