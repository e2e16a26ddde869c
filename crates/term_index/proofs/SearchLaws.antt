-- How `search` ends, and what it prints.
use Rattle.std.proofs.Common.{◌≡◌, ◌≢◌, ◌<◌, ◌∷◌, [], ◌⊎◌, inl, inr, ℕ, List, Bool, true, false, not, Option, Some, None, IfSome, Ok, Err, refl, sym, ap, ◌∙◌}
use Rattle.std.specs.Prelude.{cond, is_some}
use Rattle.std.proofs.lemmas.Bool.{true≢false}
use Rattle.std.specs.Io.KnownBytes.{Keeps}
use Rattle.owned_bytes.specs.Front.{◌>>=◌, provided}
use Rattle.owned_bytes.specs.Outside.{FileState}
use Rattle.query_tree.specs.declared.tree.UserInputAst.{UserInputAst}
use Rattle.query_tree.specs.Answer as grammar
use Rattle.query_tree.specs.Answer.{tree_of}
use Rattle.sstable_format.specs.Version.{is_known, has_known_version, has_unknown_version}
use Rattle.index_file.specs.Opening.{CanBeOpened}
use Rattle.term_search.specs.declared.answer.Answer.{Answer}
use Rattle.term_search.specs.declared.answer.Kind.{Kind}
use Rattle.term_search.specs.declared.answer.Kind.TheVariants.{Slop, Regex}
use Rattle.term_search.specs.declared.answer.SearchError.{SearchError}
use Rattle.term_search.specs.declared.answer.SearchError.TheVariants as errors
use Rattle.term_search.specs.Leaves.{first_unsupported, has_waiting_leaf}
use Rattle.term_search.specs.Searching.{IsTaken, IsSearched, CanBeSearched, IsUnsupported, IsWhole, AnswersQuery, AnswersTold, IsDamagedOrMemory}
use Rattle.term_index.specs.declared.outcome.Outcome.{Outcome}
use Rattle.term_index.specs.declared.outcome.Outcome.TheVariants.{Done, NotYet, Query, TooDeep, Version, Corrupt, Compressed, ReadFault, OutFault, Memory}
use Rattle.term_index.specs.Outcomes.{IsAmong}
use Rattle.term_index.specs.Printing.{lines, PrintsText}
use Rattle.term_index.specs.Search.{unsupported_end, leaves_end, answer_end, query_end, IsOfVersion, SaysOfFile, FileEnds, SearchEnds, error_end, IsFound, Searches}
use Rattle.term_index.proofs.GivingLaws.{gives_nothing, gives_text}

-- ---- by the query

module _ (query : List ℕ) where
  taken_end : (tree : UserInputAst) (waits : Bool) → IsTaken query tree → has_waiting_leaf tree ≡ waits → query_end query ≡ cond waits NotYet Done
  unfolding query_end
  taken_end tree waits taken is =
      ap answer_end taken.tree_is ∙ ap (λ k. unsupported_end k (leaves_end tree)) taken.supported ∙ ap (λ b. cond b NotYet Done) is

  pub searched_end : (tree : UserInputAst) → IsSearched query tree → query_end query ≡ Done
  searched_end tree searched = taken_end tree false searched.taken searched.ready

  refused_query : tree_of query ≡ grammar.Refused → query_end query ≡ Query
  unfolding query_end
  refused_query is = ap answer_end is

  deep_query : tree_of query ≡ grammar.TooDeep → query_end query ≡ TooDeep
  unfolding query_end
  deep_query is = ap answer_end is

  unsupported_query : (kind : Kind) → IsUnsupported query kind → query_end query ≡ unsupported_end (Some kind) Done
  unfolding query_end
  unsupported_query Slop says = ap answer_end says.1 ∙ ap (λ k. unsupported_end k (leaves_end says.0)) says.2
  unsupported_query Regex says = ap answer_end says.1 ∙ ap (λ k. unsupported_end k (leaves_end says.0)) says.2

  -- a taken tree has a leaf that is still to be learned, or is searched
  taken_or : (tree : UserInputAst) → IsTaken query tree → ¬ CanBeSearched query → query_end query ≡ NotYet
  taken_or tree taken unsearched = by (has_waiting_leaf tree) refl
    where
      by : (waits : Bool) → has_waiting_leaf tree ≡ waits → query_end query ≡ NotYet
      by true is = taken_end tree true taken is
      by false is = absurd (unsearched (tree, record { taken = taken; ready = is }))

  refused_ends : (error : SearchError) → AnswersQuery query (Err error) → ¬ CanBeSearched query → IsAmong (query_end query ∷ Memory ∷ []) (error_end error)
  refused_ends errors.Memory says unsearched = inr (inl refl)
  refused_ends (errors.Query error) says unsearched = inl (sym (refused_query says))
  refused_ends errors.TooDeep says unsearched = inl (sym (deep_query says))
  refused_ends (errors.Unsupported Slop) says unsearched = inl (sym (unsupported_query Slop says))
  refused_ends (errors.Unsupported Regex) says unsearched = inl (sym (unsupported_query Regex says))
  refused_ends errors.NotYet says unsearched = inl (sym (taken_or says.0 says.1 unsearched))
  refused_ends (errors.Version version) says unsearched = absurd (unsearched says)
  refused_ends errors.Corrupt says unsearched = absurd (unsearched says)
  refused_ends (errors.Compressed place) says unsearched = absurd (unsearched says)
  refused_ends errors.Read says unsearched = absurd (unsearched says)

same_tree : (query : List ℕ) (tree other : UserInputAst) → tree_of query ≡ grammar.Tree tree → tree_of query ≡ grammar.Tree other → tree ≡ other
same_tree query tree other a b = (let e : grammar.Tree tree ≡ grammar.Tree other = sym a ∙ b in cc)

both_ways : {X : Type 0} (b : Bool) → b ≡ true → b ≡ false → X
both_ways b holds fails = absurd (true≢false (sym holds ∙ fails))

-- what keeps a tree from being searched
no_answer : (query : List ℕ) (answer : grammar.Answer) → tree_of query ≡ answer → ((tree : UserInputAst) → answer ≢ grammar.Tree tree) → ¬ CanBeSearched query
no_answer query answer is apart searched = apart searched.0 (sym is ∙ searched.1.taken.tree_is)

no_kind : (query : List ℕ) (kind : Kind) → IsUnsupported query kind → ¬ CanBeSearched query
no_kind query kind says searched =
    let same = same_tree query says.0 searched.0 says.1 searched.1.taken.tree_is in
    let none : None ≡ Some kind = sym searched.1.taken.supported ∙ ap first_unsupported (sym same) ∙ says.2 in cc

no_leaf : (query : List ℕ) (tree : UserInputAst) → IsTaken query tree → has_waiting_leaf tree ≡ true → ¬ CanBeSearched query
no_leaf query tree taken waits searched =
    let same = same_tree query tree searched.0 taken.tree_is searched.1.taken.tree_is in
    both_ways (has_waiting_leaf searched.0) (ap has_waiting_leaf (sym same) ∙ waits) searched.1.ready

-- a query can be searched for or not
pub searched_or_not : (query : List ℕ) → CanBeSearched query ⊎ (¬ CanBeSearched query)
searched_or_not query = by_answer (tree_of query) refl
  where
    by_leaf : (tree : UserInputAst) (waits : Bool) → IsTaken query tree → has_waiting_leaf tree ≡ waits → CanBeSearched query ⊎ (¬ CanBeSearched query)
    by_leaf tree true taken is = inr (no_leaf query tree taken is)
    by_leaf tree false taken is = inl (tree, record { taken = taken; ready = is })

    by_kind : (tree : UserInputAst) (kind : Option Kind) → tree_of query ≡ grammar.Tree tree → first_unsupported tree ≡ kind → CanBeSearched query ⊎ (¬ CanBeSearched query)
    by_kind tree None tree_is is = by_leaf tree (has_waiting_leaf tree) (record { tree_is = tree_is; supported = is }) refl
    by_kind tree (Some kind) tree_is is = inr (no_kind query kind (tree, tree_is, is))

    by_answer : (answer : grammar.Answer) → tree_of query ≡ answer → CanBeSearched query ⊎ (¬ CanBeSearched query)
    by_answer (grammar.Tree tree) is = by_kind tree (first_unsupported tree) is refl
    by_answer grammar.Refused is = inr (no_answer query grammar.Refused is (λ tree e. cc))
    by_answer grammar.TooDeep is = inr (no_answer query grammar.TooDeep is (λ tree e. cc))

-- ---- by the file

not_known : (bytes : List ℕ) (version : ℕ) → IsOfVersion bytes version → has_known_version bytes ≡ false
not_known bytes version other =
    ap (λ (o : Option ℕ). is_some (o >>= (λ v. provided (is_known v)))) other.version_is ∙ ap (λ b. is_some (provided b)) other.unknown

is_other : (bytes : List ℕ) (version : ℕ) → IsOfVersion bytes version → has_unknown_version bytes ≡ true
is_other bytes version other =
    ap (λ (o : Option ℕ). is_some (o >>= (λ v. provided (not (is_known v))))) other.version_is ∙ ap (λ b. is_some (provided (not b))) other.unknown

-- a file of another version
other_version : (bytes : List ℕ) (version : ℕ) → IsOfVersion bytes version → (outcome : Outcome) → SaysOfFile outcome (Some bytes) → IsAmong (Version version ∷ ReadFault ∷ Memory ∷ []) outcome
other_version bytes version other Done says = both_ways (has_known_version bytes) says (not_known bytes version other)
other_version bytes version other OutFault says = both_ways (has_known_version bytes) says (not_known bytes version other)
other_version bytes version other (Version found) says = inl (let e : Some found ≡ Some version = sym says.version_is ∙ other.version_is in cc)
other_version bytes version other Corrupt says = both_ways (has_unknown_version bytes) (is_other bytes version other) says.no_other_version
other_version bytes version other (Compressed place) says = both_ways (has_unknown_version bytes) (is_other bytes version other) says.damaged.no_other_version
other_version bytes version other ReadFault says = inr (inl refl)
other_version bytes version other Memory says = inr (inr (inl refl))
other_version bytes version other _ says = absurd says

-- a file that has a table and can be opened
whole_file : (bytes : List ℕ) → IsWhole (Some bytes) → (outcome : Outcome) → SaysOfFile outcome (Some bytes) → IsAmong (Done ∷ ReadFault ∷ OutFault ∷ Memory ∷ []) outcome
whole_file bytes whole Done says = inl refl
whole_file bytes whole ReadFault says = inr (inl refl)
whole_file bytes whole OutFault says = inr (inr (inl refl))
whole_file bytes whole Memory says = inr (inr (inr (inl refl)))
whole_file bytes whole (Version version) says = both_ways (has_known_version bytes) whole.1 (not_known bytes version says)
whole_file bytes whole Corrupt says = absurd (whole.0 says.no_table)
whole_file bytes whole (Compressed place) says = absurd (whole.0 says.damaged.no_table)
whole_file bytes whole _ says = absurd says

version_told : (file : Option (List ℕ)) (outcome : Outcome) → SaysOfFile outcome file → IfSome file (λ bytes. (version : ℕ) → IsOfVersion bytes version → IsAmong (Version version ∷ ReadFault ∷ Memory ∷ []) outcome)
version_told None outcome says = tt
version_told (Some bytes) outcome says = λ version other. other_version bytes version other outcome says

whole_told : (file : Option (List ℕ)) → IsWhole file → (outcome : Outcome) → SaysOfFile outcome file → IsAmong (Done ∷ ReadFault ∷ OutFault ∷ Memory ∷ []) outcome
whole_told None whole outcome says = absurd whole
whole_told (Some bytes) whole outcome says = whole_file bytes whole outcome says

file_ends : (file : FileState) (outcome : Outcome) → SaysOfFile outcome file.contents → (file.size < 4 → IsAmong (Corrupt ∷ Memory ∷ []) outcome) → FileEnds file outcome
file_ends file outcome says short = record {
  says = says;
  short = short;
  version = version_told file.contents outcome says;
  complete = λ whole. whole_told file.contents whole outcome says;
}

-- ---- a search that is refused

module _ (query field : List ℕ) where
  error_says : (file : Option (List ℕ)) (error : SearchError) → AnswersQuery query (Err error) → AnswersTold file query field (Err error) → CanBeSearched query → SaysOfFile (error_end error) file
  error_says file errors.Memory says told searched = tt
  error_says file (errors.Query error) says told searched = absurd (no_answer query grammar.Refused says (λ tree e. cc) searched)
  error_says file errors.TooDeep says told searched = absurd (no_answer query grammar.TooDeep says (λ tree e. cc) searched)
  error_says file (errors.Unsupported Slop) says told searched = absurd (no_kind query Slop says searched)
  error_says file (errors.Unsupported Regex) says told searched = absurd (no_kind query Regex says searched)
  error_says file errors.NotYet says told searched = absurd (no_leaf query says.0 says.1 says.2 searched)
  error_says file (errors.Version version) says told searched = by file told
    where
      by : (told_file : Option (List ℕ)) → AnswersTold told_file query field (Err (errors.Version version)) → SaysOfFile (Version version) told_file
      by None told = tt
      by (Some bytes) told = record { version_is = told.0; unknown = told.1 }
  error_says file errors.Corrupt says told searched = by file told
    where
      by : (told_file : Option (List ℕ)) → AnswersTold told_file query field (Err errors.Corrupt) → SaysOfFile Corrupt told_file
      by None told = tt
      by (Some bytes) told = told
  error_says file (errors.Compressed place) says told searched = by file told
    where
      by : (told_file : Option (List ℕ)) → AnswersTold told_file query field (Err (errors.Compressed place)) → SaysOfFile (Compressed place) told_file
      by None told = tt
      by (Some bytes) told = record { damaged = told.0; compressed = told.1 }
  error_says file errors.Read says told searched = tt

  by_short : (error : SearchError) → IsDamagedOrMemory (Err error) → IsAmong (Corrupt ∷ Memory ∷ []) (error_end error)
  by_short error (inl memory) = inr (inl (ap error_end memory))
  by_short error (inr corrupt) = inl (ap error_end corrupt)

  pub error_search_ends : (file : FileState) (error : SearchError) → AnswersQuery query (Err error) → AnswersTold file.contents query field (Err error) → (file.size < 4 → CanBeSearched query → IsDamagedOrMemory (Err error)) → SearchEnds query file (error_end error)
  error_search_ends file error says told short = record {
    refused = refused_ends query error says;
    searched = λ searched. file_ends file (error_end error) (error_says file.contents error says told searched) (λ small. by_short error (short small searched));
  }

not_done : (error : SearchError) → error_end error ≢ Done
not_done errors.Memory = λ is. cc
not_done (errors.Query error) = λ is. cc
not_done errors.TooDeep = λ is. cc
not_done (errors.Unsupported Slop) = λ is. cc
not_done (errors.Unsupported Regex) = λ is. cc
not_done errors.NotYet = λ is. cc
not_done (errors.Version version) = λ is. cc
not_done errors.Corrupt = λ is. cc
not_done (errors.Compressed place) = λ is. cc
not_done errors.Read = λ is. cc

not_out : (error : SearchError) → error_end error ≢ OutFault
not_out errors.Memory = λ is. cc
not_out (errors.Query error) = λ is. cc
not_out errors.TooDeep = λ is. cc
not_out (errors.Unsupported Slop) = λ is. cc
not_out (errors.Unsupported Regex) = λ is. cc
not_out errors.NotYet = λ is. cc
not_out (errors.Version version) = λ is. cc
not_out errors.Corrupt = λ is. cc
not_out (errors.Compressed place) = λ is. cc
not_out errors.Read = λ is. cc

pub error_searches : (query field : List ℕ) (file : FileState) (error : SearchError) (old new : Option (List ℕ)) → Keeps old new → Searches query field (error_end error) file old new
error_searches query field file error old new keeps =
    gives_nothing (IsFound query field file.contents) OutFault (error_end error) old new keeps (not_done error) (not_out error)

-- ---- a search that is answered

module _ (query field : List ℕ) (answer : Answer) (outcome : Outcome) (old new : Option (List ℕ)) (prints : PrintsText outcome (lines answer.ids) old new) where
  opened : (file : Option (List ℕ)) → AnswersTold file query field (Ok answer) → IfSome file CanBeOpened
  opened file told = by file told
    where
      by : (told_file : Option (List ℕ)) → AnswersTold told_file query field (Ok answer) → IfSome told_file CanBeOpened
      by None told = tt
      by (Some bytes) told = told.opened

  answer_says : (file : Option (List ℕ)) → IfSome file CanBeOpened → SaysOfFile outcome file
  answer_says file can = by outcome prints
    where
      by : (ended : Outcome) → PrintsText ended (lines answer.ids) old new → SaysOfFile ended file
      by Done prints = can
      by OutFault prints = can
      by Memory prints = tt
      by _ prints = absurd prints

  pub answer_search_ends : (file : FileState) → AnswersQuery query (Ok answer) → AnswersTold file.contents query field (Ok answer) → (file.size < 4 → CanBeSearched query → IsDamagedOrMemory (Ok answer)) → SearchEnds query file outcome
  answer_search_ends file says told short = record {
    refused = λ unsearched. absurd (unsearched (answer.tree, says));
    searched = λ searched. file_ends file outcome (answer_says file.contents (opened file.contents told)) (λ small. absurd (short small searched));
  }

  is_found : (file : Option (List ℕ)) → AnswersQuery query (Ok answer) → AnswersTold file query field (Ok answer) → IsFound query field file (lines answer.ids)
  is_found file says told = by file told
    where
      by : (told_file : Option (List ℕ)) → AnswersTold told_file query field (Ok answer) → IsFound query field told_file (lines answer.ids)
      by None told = record { tree = answer.tree; searched = says; opened = tt; ids = answer.ids; found = tt; text_is = refl }
      by (Some bytes) told = record {
        tree = answer.tree;
        searched = says;
        opened = told.opened;
        ids = answer.ids;
        found = λ docs index. record { satisfying = told.satisfying docs index; meaning = told.meaning docs index };
        text_is = refl;
      }

  pub answer_searches : (file : FileState) → AnswersQuery query (Ok answer) → AnswersTold file.contents query field (Ok answer) → Searches query field outcome file old new
  answer_searches file says told = gives_text (IsFound query field file.contents) outcome (lines answer.ids) old new (is_found file.contents says told) prints
