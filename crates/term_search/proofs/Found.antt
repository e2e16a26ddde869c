-- What a look-up in an opened index tells of a search.
use Rattle.std.proofs.Common.{◌≡◌, ◌∙◌, sym, ap, subst, refl, ℕ, zero, suc, ◌+◌, ◌<◌, Bool, true, false, ◌||◌, List, [], ◌∷◌, ◌++◌, length, Option, Some, None, Ok, ◌&&◌, All, arith, IsTrue, ◌↔◌, add-one}
use Rattle.std.specs.Prelude.{unwrap_or, bytes_eq, nat_lt, slice_index}
use Rattle.std.specs.List.{list_any}
use Rattle.std.specs.List.Sorted.{IsStrictlyIncreasing}
use Rattle.std.specs.Cmp.Lexicographic.{bytes_decides}
use Rattle.std.specs.FinSet.{contains, from_list}
use Rattle.std.specs.Ordering.{nat_cmp}
use Rattle.std.proofs.lemmas.Bool.{and_parts, ltb-true}
use Rattle.owned_bytes.specs.Keys.{Key}
use Rattle.owned_bytes.specs.Outside.{FileState}
use Rattle.common_bitset.specs.Subset.{Subset}
use Rattle.common_bitset.specs.Laws.Sets.{contains_union, contains_empty}
use Rattle.document_sets.specs.Members.{with_numbers}
use Rattle.sstable_format.specs.Entries.{value_at}
use Rattle.documents.specs.declared.documents.Pair.{Pair}
use Rattle.documents.specs.declared.documents.Doc.{Doc}
use Rattle.documents.specs.Documents.{IsField, IsValidPair}
use Rattle.documents.specs.Postings.{gather}
use Rattle.index_file.specs.IndexFile.{is_increasing}
use Rattle.index_reading.specs.declared.open.OpenIndex.{OpenIndex}
use Rattle.index_reading.specs.Opened.{postings_told}
use Rattle.index_reading.specs.LookUp.{LooksUpTold}
use Rattle.term_search.specs.Members.{Posts, Adds, holds_term}
use Rattle.term_search.proofs.Posted.{posted, doc_pairs}

pub looked_up : (index : OpenIndex) (file : FileState) (field term : List ℕ) (key : Key) (found : Option (List ℕ)) → key ≡ field ++ 0 ∷ term → IsField field
    → LooksUpTold (postings_told index file.contents) key (Ok found) → Posts index file (holds_term field term) found
looked_up index file field term key found is own looked = record {
  those = λ docs indexed. record {
    each = λ i doc at.
        let here : found ≡ value_at key (gather docs).entries = subst (λ t. LooksUpTold t key (Ok found)) indexed.told looked in
        ap (λ o. contains {R = nat_cmp} (from_list (unwrap_or o [])) i) (here ∙ ap (λ k. value_at k (gather docs).entries) is) ∙ posted docs field term i doc indexed.valid own at;
  };
}

-- ---- a set with more numbers

pub adds_posted : (index : OpenIndex) (file : FileState) (test : Doc → Bool) (old new : Subset) (numbers : List ℕ) → Posts index file test (Some numbers)
    → new.elements ≡ with_numbers old.elements numbers → Adds index file test old new
adds_posted index file test old new numbers posts is = record {
  those = λ docs indexed i doc at.
      ap (λ s. contains s i) is ∙ contains_union old.elements (from_list numbers) i ∙ ap (λ b. contains old.elements i || b) ((posts.those docs indexed).each i doc at);
}

or_false : (b : Bool) → (b || false) ≡ b
or_false true = refl
or_false false = refl

pub adds_none : (index : OpenIndex) (file : FileState) (test : Doc → Bool) (old : Subset) → Posts index file test None → Adds index file test old old
adds_none index file test old posts = record {
  those = λ docs indexed i doc at.
      sym (or_false (contains old.elements i)) ∙ ap (λ b. contains old.elements i || b) (sym (contains_empty i) ∙ (posts.those docs indexed).each i doc at);
}

-- ---- the numbers of a list ascend

pub increasing : (numbers : List ℕ) → is_increasing numbers ≡ true → IsStrictlyIncreasing numbers
unfolding is_increasing
increasing [] h = λ k less. absurd (omega (arith, less))
increasing (a ∷ []) h = λ k less. absurd (omega (arith, less))
increasing (a ∷ b ∷ numbers) h = λ k. by (increasing (b ∷ numbers) (and_parts (nat_lt a b) (is_increasing (b ∷ numbers)) h).1) k
  where
    by : IsStrictlyIncreasing (b ∷ numbers) → (k : ℕ) → k + 1 < length (a ∷ b ∷ numbers) → slice_index (a ∷ b ∷ numbers) k < slice_index (a ∷ b ∷ numbers) (k + 1)
    by more zero less = ltb-true a b (and_parts (nat_lt a b) (is_increasing (b ∷ numbers)) h).0
    by more (suc k) less =
        subst (λ n. slice_index (b ∷ numbers) k < slice_index (a ∷ b ∷ numbers) n) (sym (add-one (suc k)))
        (subst (λ n. slice_index (b ∷ numbers) k < slice_index (b ∷ numbers) n) (add-one k) (more k (omega (arith, less))))

-- ---- a field that no document can have

and_no : (a b : Bool) → (a ≡ true → ⊥) → (a && b) ≡ false
and_no false b never = refl
and_no true b never = absurd (never refl)

not_held : (field : List ℕ) (test : List ℕ → Bool) (pairs : List Pair) → (IsField field → ⊥) → All IsValidPair pairs
    → list_any (λ (pair : Pair). bytes_eq pair.field field && test pair.term) pairs ≡ false
not_held field test [] never valid = refl
not_held field test (p ∷ pairs) never valid =
    ap (λ b. b || list_any (λ (pair : Pair). bytes_eq pair.field field && test pair.term) pairs)
    (and_no (bytes_eq p.field field) (test p.term) (λ same. never (subst IsField ((bytes_decides p.field field).0 same) (let first : IsValidPair p = valid 0 p (omega arith) in first.field))))
    ∙ not_held field test pairs never (λ k d less. valid (suc k) d (omega arith))

no_posts : (index : OpenIndex) (file : FileState) (field term : List ℕ) → (IsField field → ⊥) → Posts index file (holds_term field term) None
no_posts index file field term never = record {
  those = λ docs indexed. record {
    each = λ i doc at. contains_empty i ∙ sym (not_held field (λ found. bytes_eq found term) doc.pairs never (doc_pairs docs i doc indexed.valid.pairs at));
  };
}

no_field : (result : Bool) (P : Type 0) → result ≡ false → (IsTrue result ↔ P) → P → ⊥
no_field true P h e p = cc
no_field false P h e p = (let is : false ≡ true = e.1 p in cc)

pub posts_nowhere : (index : OpenIndex) (file : FileState) (field term : List ℕ) (result : Bool) → result ≡ false → (IsTrue result ↔ IsField field) → Posts index file (holds_term field term) None
posts_nowhere index file field term result h e = no_posts index file field term (no_field result (IsField field) h e)
