-- What the set of a tree has, and what is asked for it, by its parts.
use Rattle.std.proofs.Common.{◌≡◌, ◌∙◌, sym, ap, subst, refl, ℕ, zero, suc, ◌+◌, ◌<◌, ◌≤◌, Bool, true, false, ◌||◌, List, [], ◌∷◌, ◌++◌, length, take, drop, get_or, Option, Some, None, Result, IfErr, arith, take-append-drop}
use Rattle.std.proofs.lemmas.List.{take_all, map-append}
use Rattle.std.proofs.lemmas.Bool.{false≢true}
use Rattle.std.proofs.lemmas.Grind.{flat_map-append}
use Rattle.std.specs.List.{list_any}
use Rattle.std.specs.FinSet.{contains}
use Rattle.std.proofs.lemmas.List.Folds.{list_any-append}
use Rattle.owned_bytes.specs.Outside.{FileState}
use Rattle.common_bitset.specs.Subset.{Subset}
use Rattle.document_sets.specs.Joined.{Joined, joined_elements}
use Rattle.query_tree.specs.declared.tree.Occur.{Occur}
use Rattle.query_tree.specs.declared.tree.Occur.TheVariants.{Should, Must, MustNot}
use Rattle.query_tree.specs.declared.tree.UserInputLiteral.{UserInputLiteral}
use Rattle.query_tree.specs.declared.tree.UserInputLeaf.{UserInputLeaf}
use Rattle.query_tree.specs.declared.tree.UserInputLeaf.TheVariants as leaf
use Rattle.query_tree.specs.declared.tree.UserInputAst.{UserInputAst}
use Rattle.query_tree.specs.declared.tree.UserInputAst.TheVariants as tree
use Rattle.query_tree.specs.Decimals.{Digits}
use Rattle.documents.specs.declared.documents.Doc.{Doc}
use Rattle.printed_queries.specs.Satisfies.{satisfies, satisfies_clause, satisfies_leaf, is_must_not}
use Rattle.printed_queries.specs.Lookups.{lookups_of_leaf}
use Rattle.term_search.specs.Search.{leaves_of, lookups_of}
use Rattle.index_reading.specs.declared.open.OpenIndex.{OpenIndex}
use Rattle.term_search.specs.Leaves.{leaves_among, is_waiting_leaf, is_waiting_among, has_waiting_leaf}
use Rattle.term_search.specs.declared.answer.SearchError.{SearchError}
use Rattle.term_search.specs.declared.answer.SearchError.TheVariants.{Memory, Query, TooDeep, Unsupported, NotYet, Version, Corrupt, Compressed, Read}
use Rattle.term_search.specs.Members.{Finds, Joins, AddsMark, IsAsked, IsLone, IsLoneIn, answered, lookups_among, clause_lookups, meets_clause, marks_at, marks_of, with_mark, IsSearchError}
use Rattle.term_search.proofs.Equations.{satisfies-Clause, satisfies-Boost, satisfies-Leaf, leaves_of-Clause, leaves_of-Boost, leaves_of-Leaf, one_more, leaves_next}
use Rattle.term_search.proofs.Clauses.{marks-more, contains_joined, verdict, verdict-clause}
use Rattle.term_search.proofs.Leaf.{within_documents}
use Rattle.term_search.proofs.Turns.{indexed_later, error_before}
use Rattle.term_search.proofs.Asking.{asks_same, asks_more, asks_front}

-- ---- the three variants

pub clause_means : (doc : Doc) (default : List ℕ) (t : UserInputAst) (pairs shown : List (Option Occur × UserInputAst)) → t ≡ tree.Clause pairs → shown ≡ pairs
    → satisfies_clause (answered doc default shown) ≡ satisfies doc t default
clause_means doc default t pairs shown is same =
    ap (λ ps. satisfies_clause (answered doc default ps)) same ∙ sym (satisfies-Clause doc default pairs) ∙ ap (λ u. satisfies doc u default) (sym is)

pub boost_means : (doc : Doc) (default : List ℕ) (t inner shown : UserInputAst) (factor : Digits) → t ≡ tree.Boost inner factor → shown ≡ inner → satisfies doc shown default ≡ satisfies doc t default
boost_means doc default t inner shown factor is same =
    ap (λ u. satisfies doc u default) same ∙ sym (satisfies-Boost doc default inner factor) ∙ ap (λ u. satisfies doc u default) (sym is)

pub leaf_means : (doc : Doc) (default : List ℕ) (t : UserInputAst) (l shown : UserInputLeaf) → t ≡ tree.Leaf l → shown ≡ l → satisfies_leaf doc default shown ≡ satisfies doc t default
leaf_means doc default t l shown is same =
    ap (satisfies_leaf doc default) same ∙ sym (satisfies-Leaf doc default l) ∙ ap (λ u. satisfies doc u default) (sym is)

pub clause_leaves : (t : UserInputAst) (pairs shown : List (Option Occur × UserInputAst)) → t ≡ tree.Clause pairs → shown ≡ pairs → leaves_among shown ≡ leaves_of t
clause_leaves t pairs shown is same = ap leaves_among same ∙ sym (leaves_of-Clause pairs) ∙ ap leaves_of (sym is)

pub boost_leaves : (t inner shown : UserInputAst) (factor : Digits) → t ≡ tree.Boost inner factor → shown ≡ inner → leaves_of shown ≡ leaves_of t
boost_leaves t inner shown factor is same = ap leaves_of same ∙ sym (leaves_of-Boost inner factor) ∙ ap leaves_of (sym is)

pub leaf_leaves : (t : UserInputAst) (l shown : UserInputLeaf) → t ≡ tree.Leaf l → shown ≡ l → shown ∷ [] ≡ leaves_of t
leaf_leaves t l shown is same = ap (λ (k : UserInputLeaf). k ∷ []) same ∙ sym (leaves_of-Leaf l) ∙ ap leaves_of (sym is)

or_false : (b : Bool) → (b || false) ≡ b
or_false true = refl
or_false false = refl

pub leaf_waits : (t : UserInputAst) (l shown : UserInputLeaf) → t ≡ tree.Leaf l → shown ≡ l → is_waiting_leaf shown ≡ has_waiting_leaf t
leaf_waits t l shown is same = sym (or_false (is_waiting_leaf shown)) ∙ ap (list_any is_waiting_leaf) (leaf_leaves t l shown is same)

pub same_error : {T : Type 0} (index : OpenIndex) (file : FileState) (result : Result T SearchError) (a b : Bool) → a ≡ b
    → IfErr result (IsSearchError index file a) → IfErr result (IsSearchError index file b)
same_error index file result a b same h = subst (λ w. IfErr result (IsSearchError index file w)) same h

nothing : {A : Type 0} (ys : List A) → ys ++ [] ≡ ys
nothing [] = refl
nothing (y ∷ ys) = ap (λ zs. y ∷ zs) (nothing ys)

pub leaf_lookups : (default : List ℕ) (t : UserInputAst) (l shown : UserInputLeaf) → t ≡ tree.Leaf l → shown ≡ l → lookups_of_leaf default shown ≡ lookups_of t default
leaf_lookups default t l shown is same = sym (nothing (lookups_of_leaf default shown)) ∙ ap (lookups_among default) (leaf_leaves t l shown is same)

-- ---- a lone literal

pub lone_leaf : (t : UserInputAst) (l shown : UserInputLeaf) (literal : UserInputLiteral) → t ≡ tree.Leaf l → shown ≡ l → shown ≡ leaf.Literal literal → IsLone t literal
lone_leaf t l shown literal is same own = record {
  leaves = sym (leaf_leaves t l shown is same) ∙ ap (λ (k : UserInputLeaf). k ∷ []) own;
  means = λ doc default. sym (leaf_means doc default t l shown is same) ∙ ap (satisfies_leaf doc default) own;
}

pub lone_clause : (t : UserInputAst) (pairs shown : List (Option Occur × UserInputAst)) (literal : UserInputLiteral) → t ≡ tree.Clause pairs → shown ≡ pairs → IsLoneIn shown literal → IsLone t literal
lone_clause t pairs shown literal is same lone = record {
  leaves = sym (clause_leaves t pairs shown is same) ∙ lone.leaves;
  means = λ doc default. sym (clause_means doc default t pairs shown is same) ∙ lone.means doc default;
}

-- a clause of one tree that may not be missing means what the tree means
one_means : (mark : Option Occur) (b : Bool) → is_must_not mark ≡ false → satisfies_clause ((mark, b) ∷ []) ≡ b
unfolding satisfies_clause
one_means None true possible = refl
one_means None false possible = refl
one_means (Some Should) true possible = refl
one_means (Some Should) false possible = refl
one_means (Some Must) true possible = refl
one_means (Some Must) false possible = refl
one_means (Some MustNot) b possible = absurd (false≢true (sym possible))

one_pair : (pairs : List (Option Occur × UserInputAst)) (pair : Option Occur × UserInputAst) → length pairs ≡ 1 → pair ≡ get_or pairs 0 pair → pairs ≡ pair ∷ []
one_pair [] pair one is = absurd (omega (arith, one))
one_pair (p ∷ []) pair one is = ap (λ (q : Option Occur × UserInputAst). q ∷ []) (sym is)
one_pair (p ∷ q ∷ pairs) pair one is = absurd (omega (arith, one))

lone_pair : (pair : Option Occur × UserInputAst) (literal : UserInputLiteral) → is_must_not pair.0 ≡ false → IsLone pair.1 literal → IsLoneIn (pair ∷ []) literal
lone_pair pair literal possible lone = record {
  leaves = nothing (leaves_of pair.1) ∙ lone.leaves;
  means = λ doc default. one_means pair.0 (satisfies doc pair.1 default) possible ∙ lone.means doc default;
}

pub lone_in : (pairs : List (Option Occur × UserInputAst)) (pair : Option Occur × UserInputAst) (literal : UserInputLiteral) → length pairs ≡ 1 → pair ≡ get_or pairs 0 pair
    → is_must_not pair.0 ≡ false → IsLone pair.1 literal → IsLoneIn pairs literal
lone_in pairs pair literal one is possible lone = subst (λ ps. IsLoneIn ps literal) (sym (one_pair pairs pair one is)) (lone_pair pair literal possible lone)

-- ---- one pair more

pub joins_next : (index : OpenIndex) (before now : FileState) (default : List ℕ) (pairs : List (Option Occur × UserInputAst)) (i : ℕ) (pair : Option Occur × UserInputAst) (found : Subset) (old new : Joined)
    → now.contents ≡ before.contents → i < length pairs → pair ≡ get_or pairs i pair
    → Joins index before default (take i pairs) old → Finds index now (λ doc. satisfies doc pair.1 default) found → AddsMark pair.0 found.elements old new
    → Joins index before default (take (i + 1) pairs) new
joins_next index before now default pairs i pair found old new same less is joins finds adds = record {
  those = λ docs indexed k doc at.
      adds k
      ∙ ap (λ b. with_mark (marks_at k old) pair.0 b) ((finds.those docs (indexed_later index before now docs same indexed)).each k doc at)
      ∙ ap (λ m. with_mark m pair.0 (satisfies doc pair.1 default)) (joins.those docs indexed k doc at)
      ∙ sym (marks-more (answered doc default (take i pairs)) pair.0 (satisfies doc pair.1 default))
      ∙ ap marks_of (sym (map-append (λ (p : Option Occur × UserInputAst). (p.0, satisfies doc p.1 default)) (take i pairs) (pair ∷ [])) ∙ ap (answered doc default) (sym (one_more pairs i pair less is)));
}

pub joined_finds : (index : OpenIndex) (file : FileState) (default : List ℕ) (pairs : List (Option Occur × UserInputAst)) (i : ℕ) (joined : Joined) (found : Subset)
    → length pairs ≤ i → joined.documents ≡ index.documents → found ≡ record { elements = joined_elements joined; max_value = joined.documents }
    → Joins index file default (take i pairs) joined → Finds index file (meets_clause default pairs) found
joined_finds index file default pairs i joined found all over is joins = record {
  over = ap (λ (s : Subset). s.max_value) is ∙ over;
  those = λ docs indexed. record {
    each = λ k doc at.
        ap (λ (s : Subset). contains s.elements k) is
        ∙ contains_joined k joined (subst (λ n. k < n) (sym over) (within_documents file.contents index docs k doc indexed.told at))
        ∙ ap verdict (joins.those docs indexed k doc at)
        ∙ verdict-clause (answered doc default (take i pairs))
        ∙ ap (λ ps. satisfies_clause (answered doc default ps)) (take_all i pairs all);
  };
}

-- ---- what is asked

pub pairs_next : (index : OpenIndex) (default : List ℕ) (pairs : List (Option Occur × UserInputAst)) (i : ℕ) (pair : Option Occur × UserInputAst) (before middle now : FileState) (P Q : Type 0)
    → i < length pairs → pair ≡ get_or pairs i pair
    → IsAsked index (clause_lookups default (take i pairs)) before middle P → IsAsked index (lookups_of pair.1 default) middle now Q
    → IsAsked index (clause_lookups default (take (i + 1) pairs)) before now Q
pairs_next index default pairs i pair before middle now P Q less at first second =
    asks_same index _ _ before now Q
    (sym (flat_map-append (lookups_of_leaf default) (leaves_among (take i pairs)) (leaves_of pair.1)) ∙ ap (lookups_among default) (sym (leaves_next pairs i pair less at)))
    (asks_more index (clause_lookups default (take i pairs)) (lookups_of pair.1 default) before middle now P Q first second)

pub pairs_ended : (index : OpenIndex) (default : List ℕ) (pairs : List (Option Occur × UserInputAst)) (n : ℕ) (before now : FileState) (P : Type 0)
    → IsAsked index (clause_lookups default (take n pairs)) before now P → IsAsked index (clause_lookups default pairs) before now P
pairs_ended index default pairs n before now P asks =
    asks_same index _ _ before now P
    (sym (flat_map-append (lookups_of_leaf default) (leaves_among (take n pairs)) (leaves_among (drop n pairs)))
    ∙ ap (lookups_among default) (sym (flat_map-append (λ (p : Option Occur × UserInputAst). leaves_of p.1) (take n pairs) (drop n pairs)))
    ∙ ap (λ ps. lookups_among default (leaves_among ps)) (take-append-drop n pairs))
    (asks_front index (clause_lookups default (take n pairs)) (clause_lookups default (drop n pairs)) before now P asks)

-- ---- errors

or_true : (b : Bool) → (b || true) ≡ true
or_true true = refl
or_true false = refl

waits_among : (pairs : List (Option Occur × UserInputAst)) (i : ℕ) (pair : Option Occur × UserInputAst) → i < length pairs → pair ≡ get_or pairs i pair → has_waiting_leaf pair.1 ≡ true
    → list_any is_waiting_leaf (leaves_among pairs) ≡ true
waits_among [] i pair less is waits = absurd (omega arith)
waits_among (p ∷ pairs) zero pair less is waits =
    list_any-append is_waiting_leaf (leaves_of p.1) (leaves_among pairs)
    ∙ ap (λ b. b || list_any is_waiting_leaf (leaves_among pairs)) (ap (λ (q : Option Occur × UserInputAst). has_waiting_leaf q.1) (sym is) ∙ waits)
waits_among (p ∷ pairs) (suc i) pair less is waits =
    list_any-append is_waiting_leaf (leaves_of p.1) (leaves_among pairs)
    ∙ ap (λ b. list_any is_waiting_leaf (leaves_of p.1) || b) (waits_among pairs i pair (omega arith) is waits) ∙ or_true (list_any is_waiting_leaf (leaves_of p.1))

weaker : (index : OpenIndex) (file : FileState) (a b : Bool) (error : SearchError) → (a ≡ true → b ≡ true) → IsSearchError index file a error → IsSearchError index file b error
weaker index file a b Memory imp h = tt
weaker index file a b Read imp h = tt
weaker index file a b NotYet imp h = imp h
weaker index file a b Corrupt imp h = h
weaker index file a b (Compressed place) imp h = h
weaker index file a b (Query e) imp h = h
weaker index file a b TooDeep imp h = h
weaker index file a b (Unsupported kind) imp h = h
weaker index file a b (Version version) imp h = h

pub error_among : (index : OpenIndex) (before now : FileState) (pairs : List (Option Occur × UserInputAst)) (i : ℕ) (pair : Option Occur × UserInputAst) (error : SearchError)
    → now.contents ≡ before.contents → i < length pairs → pair ≡ get_or pairs i pair → IsSearchError index now (has_waiting_leaf pair.1) error
    → IsSearchError index before (is_waiting_among pairs) error
error_among index before now pairs i pair error same less is h =
    weaker index before (has_waiting_leaf pair.1) (is_waiting_among pairs) error (waits_among pairs i pair less is) (error_before index before now (has_waiting_leaf pair.1) error same h)
