-- What a leaf's set has, and what is asked for it.
use Rattle.std.proofs.Common.{◌≡◌, ◌∙◌, sym, ap, subst, refl, ℕ, zero, suc, ◌<◌, Bool, true, false, ◌&&◌, ◌||◌, ◌==◌, List, [], ◌∷◌, length, map, Option, Some, None, Result, Ok, Err, IfOk, slice_get, arith}
use Rattle.std.specs.Prelude.{if◌then◌else◌, unwrap_or, nat_eq, bytes_eq}
use Rattle.std.specs.List.{list_any, list_all, starts_with}
use Rattle.std.specs.declared.ops.Range.{Range}
use Rattle.std.specs.FinSet.{empty, contains}
use Rattle.std.proofs.lemmas.Bool.{lt-ltb}
use Rattle.owned_bytes.specs.Front.{provided}
use Rattle.owned_bytes.proofs.Pieces.{bind_some, some_is}
use Rattle.owned_bytes.specs.Keys.{Key}
use Rattle.owned_bytes.specs.Outside.{FileState}
use Rattle.common_bitset.specs.Numbers.{below}
use Rattle.common_bitset.specs.Subset.{Subset}
use Rattle.common_bitset.specs.Laws.Sets.{contains_empty, contains_below}
use Rattle.query_tree.specs.declared.tree.UserInputLiteral.{UserInputLiteral}
use Rattle.query_tree.specs.declared.tree.UserInputLeaf.{UserInputLeaf}
use Rattle.query_tree.specs.declared.tree.UserInputLeaf.TheVariants as leaf
use Rattle.documents.specs.declared.documents.Doc.{Doc}
use Rattle.documents.specs.Documents.{holds, holds_where}
use Rattle.documents.specs.Postings.{Postings, gather}
use Rattle.printed_queries.specs.Satisfies.{satisfies_leaf}
use Rattle.printed_queries.specs.Lookups.{Lookup, lookups_of_leaf, takes_literal}
use Rattle.index_file.specs.IndexFile.{postings_of, with_numbers, adjoin, is_posting}
use Rattle.index_file.specs.Header.{Header, numbers_in}
use Rattle.index_reading.specs.declared.open.OpenIndex.{OpenIndex}
use Rattle.index_reading.specs.Opened.{postings_told, postings_in, header_of}
use Rattle.term_search.specs.Members.{Finds, Adds, lookup_of, literal_lookups}

-- ---- a set begun from the empty one

pub finds_added : (index : OpenIndex) (file : FileState) (test : Doc → Bool) (start found : Subset) → start ≡ record { elements = empty; max_value = index.documents }
    → found.max_value ≡ index.documents → Adds index file test start found → Finds index file test found
finds_added index file test start found is over adds = record {
  over = over;
  those = λ docs indexed. record {
    each = λ i doc at. adds.those docs indexed i doc at ∙ ap (λ b. b || test doc) (ap (λ (s : Subset). contains s.elements i) is ∙ contains_empty i);
  };
}

pub finds_same : (index : OpenIndex) (file : FileState) (test other : Doc → Bool) (found : Subset) → ((doc : Doc) → test doc ≡ other doc) → Finds index file test found → Finds index file other found
finds_same index file test other found same finds = record {
  over = finds.over;
  those = λ docs indexed. record { each = λ i doc at. (finds.those docs indexed).each i doc at ∙ same doc };
}

pub finds_same_ok : {E : Type 0} (index : OpenIndex) (file : FileState) (test other : Doc → Bool) (result : Result Subset E) → ((doc : Doc) → test doc ≡ other doc)
    → IfOk result (Finds index file test) → IfOk result (Finds index file other)
finds_same_ok index file test other (Ok s) same finds = finds_same index file test other s same finds
finds_same_ok index file test other (Err e) same finds = finds

pub finds_nothing : (index : OpenIndex) (file : FileState) (test : Doc → Bool) (found : Subset) → found ≡ record { elements = empty; max_value = index.documents }
    → ((doc : Doc) → test doc ≡ false) → Finds index file test found
finds_nothing index file test found is never = record {
  over = ap (λ (s : Subset). s.max_value) is;
  those = λ docs indexed. record { each = λ i doc at. ap (λ (s : Subset). contains s.elements i) is ∙ contains_empty i ∙ sym (never doc) };
}

-- ---- the number of documents

pub postings_are : (header : Header) (entries : List (Key × Range ℕ)) (postings : Postings) → postings_of header entries ≡ Some postings
    → record { documents = header.documents; entries = map (with_numbers (numbers_in header)) entries } ≡ postings
postings_are header entries postings h =
    let first = bind_some (provided (adjoin 0 header.count (map (λ (entry : Key × Range ℕ). entry.1) entries))) _ postings h in
    let second = bind_some (provided (list_all (is_posting header.documents) (map (with_numbers (numbers_in header)) entries))) _ postings first.2 in
    some_is _ postings second.2

postings_documents : (index : OpenIndex) (file : List ℕ) (postings : Postings) → postings_in index file ≡ Some postings → postings.documents ≡ index.documents
unfolding postings_in
postings_documents index file postings h =
    let first = bind_some _ (postings_of (header_of index file)) postings h in
    ap (λ (p : Postings). p.documents) (sym (postings_are (header_of index file) first.0 postings first.2))

pub told_documents : (contents : Option (List ℕ)) (index : OpenIndex) (postings : Postings) → postings_told index contents ≡ Some postings → postings.documents ≡ index.documents
told_documents None index postings h = cc
told_documents (Some file) index postings h = postings_documents index file postings h

pub gathered_documents : (docs : List Doc) → (gather docs).documents ≡ length docs
unfolding gather
gathered_documents docs = refl

pub within_documents : (contents : Option (List ℕ)) (index : OpenIndex) (docs : List Doc) (i : ℕ) (doc : Doc) → postings_told index contents ≡ Some (gather docs) → slice_get docs i ≡ Some doc
    → i < index.documents
within_documents contents index docs i doc told at =
    subst (λ n. i < n) (sym (gathered_documents docs) ∙ told_documents contents index (gather docs) told) (shorter docs i doc at)
  where
    shorter : (docs : List Doc) (i : ℕ) (doc : Doc) → slice_get docs i ≡ Some doc → i < length docs
    shorter [] i doc h = (let apart : None ≡ Some doc = h in cc)
    shorter (d ∷ docs) zero doc h = omega arith
    shorter (d ∷ docs) (suc i) doc h = (let less : i < length docs = shorter docs i doc h in omega arith)

pub finds_all : (index : OpenIndex) (file : FileState) (test : Doc → Bool) (found : Subset) → found ≡ record { elements = below index.documents; max_value = index.documents }
    → ((doc : Doc) → test doc ≡ true) → Finds index file test found
finds_all index file test found is always = record {
  over = ap (λ (s : Subset). s.max_value) is;
  those = λ docs indexed. record {
    each = λ i doc at.
        ap (λ (s : Subset). contains s.elements i) is ∙ contains_below index.documents i
        ∙ lt-ltb i index.documents (within_documents file.contents index docs i doc indexed.told at) ∙ sym (always doc);
  };
}

-- ---- what leaves mean

literal_takes : (l : UserInputLiteral) → l.slop ≡ 0 → l.prefix ≡ false → (term : List ℕ) → takes_literal l term ≡ bytes_eq term l.phrase
literal_takes l slop prefix term =
    ap (λ n. (n == 0) && (if l.prefix then starts_with nat_eq term l.phrase else bytes_eq term l.phrase)) slop
    ∙ ap (λ b. if b then starts_with nat_eq term l.phrase else bytes_eq term l.phrase) prefix

pub literal_holds : (doc : Doc) (default : List ℕ) (l : UserInputLiteral) → l.slop ≡ 0 → l.prefix ≡ false
    → holds doc (unwrap_or l.field_name default) l.phrase ≡ satisfies_leaf doc default (leaf.Literal l)
unfolding satisfies_leaf
literal_holds doc default l slop prefix =
    let field : List ℕ = unwrap_or l.field_name default in
    sym (ap (λ n. (n == 0) && (if l.prefix then holds_where doc field (λ term. starts_with nat_eq term l.phrase) else holds doc field l.phrase)) slop
    ∙ ap (λ b. if b then holds_where doc field (λ term. starts_with nat_eq term l.phrase) else holds doc field l.phrase) prefix)

no_zero : (n : ℕ) → 0 < n → (n == 0) ≡ false
no_zero n h = grind arith

pub slop_holds : (doc : Doc) (default : List ℕ) (l : UserInputLiteral) → 0 < l.slop → satisfies_leaf doc default (leaf.Literal l) ≡ false
unfolding satisfies_leaf
slop_holds doc default l slop =
    let field : List ℕ = unwrap_or l.field_name default in
    ap (λ b. b && (if l.prefix then holds_where doc field (λ term. starts_with nat_eq term l.phrase) else holds doc field l.phrase)) (no_zero l.slop slop)

pub set_holds : (doc : Doc) (default field : List ℕ) (own : Option (List ℕ)) (elements : List (List ℕ)) → field ≡ unwrap_or own default
    → list_any (holds doc field) elements ≡ satisfies_leaf doc default (leaf.Set own elements)
unfolding satisfies_leaf
set_holds doc default field own elements is = ap (λ f. list_any (holds doc f) elements) is

pub regex_holds : (doc : Doc) (default : List ℕ) (own : Option (List ℕ)) (pattern : List ℕ) → satisfies_leaf doc default (leaf.Regex own pattern) ≡ false
unfolding satisfies_leaf
regex_holds doc default own pattern = refl

pub all_holds : (doc : Doc) (default : List ℕ) → satisfies_leaf doc default leaf.All ≡ true
unfolding satisfies_leaf
all_holds doc default = refl

-- ---- what leaves look for

pub literal_looks_for : (default field term : List ℕ) (l : UserInputLiteral) → field ≡ unwrap_or l.field_name default → term ≡ l.phrase → l.slop ≡ 0 → l.prefix ≡ false
    → lookup_of field term ∷ [] ≡ literal_lookups default l
unfolding lookups_of_leaf
literal_looks_for default field term l is same slop prefix =
    ap (λ f. lookup_of f term ∷ []) is ∙ ap (λ t. lookup_of (unwrap_or l.field_name default) t ∷ []) same
    ∙ ap (λ (test : List ℕ → Bool). record { field = unwrap_or l.field_name default; takes = test } ∷ []) (λ i found. sym (literal_takes l slop prefix found) i)

pub set_looks_for : (default field : List ℕ) (own : Option (List ℕ)) (elements texts : List (List ℕ)) (l : UserInputLeaf) → l ≡ leaf.Set own elements → texts ≡ elements → field ≡ unwrap_or own default
    → map (lookup_of field) texts ≡ lookups_of_leaf default l
unfolding lookups_of_leaf
set_looks_for default field own elements texts l is same own_field =
    ap (map (lookup_of field)) same ∙ ap (λ f. map (lookup_of f) elements) own_field ∙ ap (lookups_of_leaf default) (sym is)
