-- One turn more of a loop over what is looked for.
use Rattle.std.proofs.Common.{◌≡◌, ◌∙◌, sym, ap, subst, refl, ℕ, ◌+◌, ◌<◌, ◌≤◌, Bool, true, false, ◌||◌, List, [], ◌∷◌, length, take, get_or}
use Rattle.std.proofs.lemmas.List.{take_all}
use Rattle.std.specs.List.{list_any}
use Rattle.std.specs.FinSet.{contains}
use Rattle.std.proofs.lemmas.List.Folds.{list_any-append}
use Rattle.owned_bytes.specs.Outside.{FileState}
use Rattle.common_bitset.specs.Subset.{Subset}
use Rattle.documents.specs.declared.documents.Doc.{Doc}
use Rattle.documents.specs.Documents.{holds}
use Rattle.index_reading.specs.declared.open.OpenIndex.{OpenIndex}
use Rattle.index_reading.specs.Opened.{postings_told}
use Rattle.term_search.specs.declared.answer.SearchError.{SearchError}
use Rattle.term_search.specs.declared.answer.SearchError.TheVariants.{Memory, Query, TooDeep, Unsupported, NotYet, Version, Corrupt, Compressed, Read}
use Rattle.term_search.specs.Members.{Adds, AreIndexed, IsSearchError, NamesBlock, holds_term, holds_any}
use Rattle.term_search.proofs.Equations.{one_more}

-- ---- the file tells the same

pub indexed_later : (index : OpenIndex) (before now : FileState) (docs : List Doc) → now.contents ≡ before.contents → AreIndexed index before docs → AreIndexed index now docs
indexed_later index before now docs same indexed = record { valid = indexed.valid; told = ap (postings_told index) same ∙ indexed.told }

pub error_before : (index : OpenIndex) (before now : FileState) (waiting : Bool) (error : SearchError) → now.contents ≡ before.contents
    → IsSearchError index now waiting error → IsSearchError index before waiting error
error_before index before now waiting Memory same h = tt
error_before index before now waiting Read same h = tt
error_before index before now waiting NotYet same h = h
error_before index before now waiting Corrupt same h = ap (postings_told index) (sym same) ∙ h
error_before index before now waiting (Compressed place) same h = (ap (postings_told index) (sym same) ∙ h.0, subst (λ c. NamesBlock c place) same h.1)
error_before index before now waiting (Query error) same h = h
error_before index before now waiting TooDeep same h = h
error_before index before now waiting (Unsupported kind) same h = h
error_before index before now waiting (Version version) same h = h

-- ---- one term more

or_false : (b : Bool) → (b || false) ≡ b
or_false true = refl
or_false false = refl

or_assoc : (a b c : Bool) → ((a || b) || c) ≡ (a || (b || c))
or_assoc true b c = refl
or_assoc false b c = refl

pub adds_next : (index : OpenIndex) (before now : FileState) (field : List ℕ) (terms : List (List ℕ)) (i : ℕ) (term item : List ℕ) (old middle new : Subset)
    → now.contents ≡ before.contents → i < length terms → item ≡ get_or terms i item → term ≡ item
    → Adds index before (holds_any field (take i terms)) old middle → Adds index now (holds_term field term) middle new
    → Adds index before (holds_any field (take (i + 1) terms)) old new
adds_next index before now field terms i term item old middle new same less is shown first second = record {
  those = λ docs indexed k doc at.
      second.those docs (indexed_later index before now docs same indexed) k doc at
      ∙ ap (λ b. b || holds doc field term) (first.those docs indexed k doc at)
      ∙ or_assoc (contains old.elements k) (list_any (holds doc field) (take i terms)) (holds doc field term)
      ∙ ap (λ b. contains old.elements k || b)
      (ap (λ t. list_any (holds doc field) (take i terms) || holds doc field t) shown
      ∙ ap (λ b. list_any (holds doc field) (take i terms) || b) (sym (or_false (holds doc field item)))
      ∙ sym (list_any-append (holds doc field) (take i terms) (item ∷ []))
      ∙ ap (list_any (holds doc field)) (sym (one_more terms i item less is)));
}

pub adds_all : (index : OpenIndex) (file : FileState) (field : List ℕ) (terms : List (List ℕ)) (i : ℕ) (old new : Subset) → length terms ≤ i
    → Adds index file (holds_any field (take i terms)) old new → Adds index file (holds_any field terms) old new
adds_all index file field terms i old new all adds = record {
  those = λ docs indexed k doc at. adds.those docs indexed k doc at ∙ ap (λ ts. contains old.elements k || list_any (holds doc field) ts) (take_all i terms all);
}
