-- What a search answers, by what its steps answer.
use Rattle.std.proofs.Common.{◌≡◌, ◌∙◌, sym, ap, subst, refl, ℕ, ◌+◌, ◌*◌, ◌≤◌, Bool, true, false, List, [], ◌∷◌, length, Option, Some, None, Ok, Err, arith, filter, map, length-append}
use Rattle.std.specs.Prelude.{unwrap_or, bytes_eq, suc}
use Rattle.std.specs.List.{flat_map}
use Rattle.std.specs.Str.{IsUtf8}
use Rattle.owned_bytes.specs.Outside.{FileState}
use Rattle.common_bitset.specs.Numbers.{rising}
use Rattle.common_bitset.specs.Subset.{Subset}
use Rattle.query_tree.specs.declared.answer.ParseError.TheVariants as parse
use Rattle.query_tree.specs.declared.tree.UserInputLeaf.{UserInputLeaf}
use Rattle.query_tree.specs.declared.tree.UserInputLeaf.TheVariants as leaf
use Rattle.query_tree.specs.declared.tree.UserInputAst.{UserInputAst}
use Rattle.query_tree.specs.Answer as grammar
use Rattle.query_tree.specs.Answer.{tree_of}
use Rattle.documents.specs.Documents.{is_field}
use Rattle.documents.specs.Postings.{gather}
use Rattle.printed_queries.specs.Satisfies.{satisfies}
use Rattle.printed_queries.specs.Lookups.{Lookup, lookups_of_leaf}
use Rattle.printed_queries.proofs.PrintedLaw.{numbers_mean, printed_is_read}
use Rattle.index_reading.specs.declared.open.OpenIndex.{OpenIndex}
use Rattle.index_reading.specs.Opened.{postings_told}
use Rattle.index_reading.specs.Opening.{OpensTold}
use Rattle.term_search.specs.Search.{asked, units, lookups_of, leaves_of}
use Rattle.term_search.specs.declared.answer.SearchError.{SearchError}
use Rattle.term_search.specs.declared.answer.SearchError.TheVariants.{Memory, Query, TooDeep, Unsupported, NotYet, Version, Corrupt, Compressed, Read}
use Rattle.term_search.specs.Members.{Finds}
use Rattle.term_search.specs.Searching.{FindsNumbersTold, ReadsQuery, ReadsFor, IsSearched, AnswersExpression, AnswersTold}
use Rattle.term_search.proofs.Leaf.{told_documents, gathered_documents}
use Rattle.term_search.proofs.Posted.{rising_those}

pub found_numbers_told : (before now : FileState) (index : OpenIndex) (tree : UserInputAst) (default : List ℕ) (found : Subset) (ids : List ℕ)
    → OpensTold before.contents (Ok index) → now.contents ≡ before.contents → Finds index now (λ doc. satisfies doc tree default) found → ids ≡ rising found.max_value found.elements
    → FindsNumbersTold before.contents tree default (Ok ids)
found_numbers_told before now index tree default found ids opens same finds is = by before.contents opens same
  where
    by : (contents : Option (List ℕ)) → OpensTold contents (Ok index) → now.contents ≡ contents → FindsNumbersTold contents tree default (Ok ids)
    by None opens same = tt
    by (Some file) opens same = (
      opens.readable,
      λ docs indexed.
          let told : postings_told index now.contents ≡ Some (gather docs) = ap (postings_told index) same ∙ opens.postings ∙ indexed.table in
          let many : found.max_value ≡ length docs = finds.over ∙ sym (told_documents now.contents index (gather docs) told) ∙ gathered_documents docs in
          is ∙ ap (λ n. rising n found.elements) many
          ∙ rising_those docs (λ doc. satisfies doc tree default) found.elements (finds.those docs (record { valid = indexed.valid; told = told })),
    )

-- ---- the whole answer

pub printed_refused : (query : List ℕ) (e : SearchError) → IsUtf8 query → ReadsQuery query (Err e) → AnswersExpression query (Err e)
printed_refused query Memory utf8 h = tt
printed_refused query (Query error) utf8 h = printed_is_read query (Err (parse.Refused error)) utf8 h
printed_refused query TooDeep utf8 h = printed_is_read query (Err parse.TooDeep) utf8 h
printed_refused query (Unsupported kind) utf8 h = tt
printed_refused query NotYet utf8 h = tt
printed_refused query (Version version) utf8 h = tt
printed_refused query Corrupt utf8 h = tt
printed_refused query (Compressed place) utf8 h = tt
printed_refused query Read utf8 h = tt

pub printed_answered : (query ids : List ℕ) (tree : UserInputAst) → IsUtf8 query → IsSearched query tree → AnswersExpression query (Ok (record { tree = tree; ids = ids }))
printed_answered query ids tree utf8 searched = printed_is_read query (Ok tree) utf8 searched.taken.tree_is

pub answers_told : (contents : Option (List ℕ)) (query default ids : List ℕ) (tree : UserInputAst) → IsUtf8 query → IsSearched query tree → FindsNumbersTold contents tree default (Ok ids)
    → AnswersTold contents query default (Ok (record { tree = tree; ids = ids }))
answers_told None query default ids tree utf8 searched found = tt
answers_told (Some file) query default ids tree utf8 searched found = record {
  opened = found.0;
  satisfying = found.1;
  meaning = λ docs indexed. numbers_mean docs query default ids tree utf8 searched.taken.tree_is (found.1 docs indexed);
}

-- ---- how much is asked

filter-le : {A : Type 0} (test : A → Bool) (xs : List A) → length (filter test xs) ≤ length xs
filter-le test [] = omega arith
filter-le test (x ∷ xs) = by (filter-le test xs) (test x) refl
  where
    by : length (filter test xs) ≤ length xs → (b : Bool) → test x ≡ b → length (filter test (x ∷ xs)) ≤ length (x ∷ xs)
    by more true e = rw e (omega (arith, more))
    by more false e = rw e (omega (arith, more))

set_units : {A B : Type 0} (f g : A → B) (xs : List A) → length (map f xs) ≡ length (map g xs)
set_units f g [] = refl
set_units f g (x ∷ xs) = ap (λ n. suc n) (set_units f g xs)

leaf_units : (default : List ℕ) (l : UserInputLeaf) → length (lookups_of_leaf default l) ≡ length (lookups_of_leaf [] l)
unfolding lookups_of_leaf
leaf_units default (leaf.Literal literal) = refl
leaf_units default leaf.All = refl
leaf_units default (leaf.Range field lower upper) = refl
leaf_units default (leaf.Set field elements) = set_units (λ element. record { field = unwrap_or field default; takes = λ term. bytes_eq term element }) (λ element. record { field = unwrap_or field []; takes = λ term. bytes_eq term element }) elements
leaf_units default (leaf.Exists field) = refl
leaf_units default (leaf.Regex field pattern) = refl

leaves_units : (default : List ℕ) (leaves : List UserInputLeaf) → length (flat_map (lookups_of_leaf default) leaves) ≡ length (flat_map (lookups_of_leaf []) leaves)
leaves_units default [] = refl
leaves_units default (l ∷ leaves) =
    length-append (lookups_of_leaf default l) (flat_map (lookups_of_leaf default) leaves)
    ∙ ap (λ n. n + length (flat_map (lookups_of_leaf default) leaves)) (leaf_units default l) ∙ ap (λ n. length (lookups_of_leaf [] l) + n) (leaves_units default leaves)
    ∙ sym (length-append (lookups_of_leaf [] l) (flat_map (lookups_of_leaf []) leaves))

asked-units : (tree : UserInputAst) (default : List ℕ) → length (asked tree default) ≤ units tree
asked-units tree default = omega (arith, filter-le (λ (wanted : Lookup). is_field wanted.field) (lookups_of tree default), leaves_units default (leaves_of tree))

pub same_tree : (query : List ℕ) (a b : UserInputAst) → tree_of query ≡ grammar.Tree a → tree_of query ≡ grammar.Tree b → a ≡ b
same_tree query a b h k = (let e : grammar.Tree a ≡ grammar.Tree b = sym h ∙ k in cc)

pub reads_for : (query default : List ℕ) (tree : UserInputAst) (before now : FileState) → IsSearched query tree → now.reads ≤ before.reads + (4 + 2 * length (asked tree default)) → ReadsFor query default before now
reads_for query default tree before now searched reads = record {
  asked = λ other is. subst (λ t. now.reads ≤ before.reads + (4 + 2 * length (asked t default))) (same_tree query tree other searched.taken.tree_is is) reads;
  within = λ other is. subst (λ t. now.reads ≤ before.reads + (4 + 2 * units t)) (same_tree query tree other searched.taken.tree_is is) (omega (arith, reads, asked-units tree default));
}
