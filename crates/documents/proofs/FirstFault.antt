-- The first fault, one pair and one document at a time.
use Rattle.std.proofs.Common.{◌≡◌, ℕ, ◌+◌, ◌<◌, List, [], ◌∷◌, ◌++◌, length, drop, get_or, refl, sym, ap, ◌∙◌, Option, Some, None}
use Rattle.std.specs.Prelude.{slice_get, option_map}
use Rattle.std.specs.List.{cons_option}
use Rattle.std.proofs.lemmas.List.{drop_more}
use Rattle.documents.specs.declared.documents.Pair.{Pair}
use Rattle.documents.specs.declared.documents.Doc.{Doc}
use Rattle.documents.specs.declared.faults.Fault.{Fault}
use Rattle.documents.specs.declared.faults.PlacedFault.{PlacedFault}
use Rattle.documents.specs.Documents.{fault_of, faults_from, first_from}

one_more : {X : Type 0} (xs : List X) (i : ℕ) (x : X) → i < length xs → x ≡ get_or xs i x → drop i xs ≡ x ∷ drop (i + 1) xs
one_more xs i x within at = drop_more xs i x within ∙ ap (λ y. y ∷ drop (i + 1) xs) (sym at)

-- the faults from a place on, by what the pair there has
faults-cons : (doc place : ℕ) (pair : Pair) (pairs : List Pair) (found : Option Fault) → fault_of pair ≡ found → faults_from doc place (pair ∷ pairs) ≡ cons_option (option_map (λ fault. record { doc = doc; pair = place; fault = fault }) found) (faults_from doc (place + 1) pairs)
faults-cons doc place pair pairs found is = ap (λ (o : Option Fault). cons_option (option_map (λ fault. record { doc = doc; pair = place; fault = fault }) o) (faults_from doc (place + 1) pairs)) is

module _ (doc : ℕ) (pairs : List Pair) (i : ℕ) (pair : Pair) (within : i < length pairs) (at : pair ≡ get_or pairs i pair) where
  pub no_fault_at : fault_of pair ≡ None → faults_from doc i (drop i pairs) ≡ faults_from doc (i + 1) (drop (i + 1) pairs)
  no_fault_at is = ap (faults_from doc i) (one_more pairs i pair within at) ∙ faults-cons doc i pair (drop (i + 1) pairs) None is

first_of-append : (fs gs : List PlacedFault) (found : Option PlacedFault) → slice_get fs 0 ≡ found → slice_get (fs ++ gs) 0 ≡ (elim found [ Some f ↦ Some f | None ↦ slice_get gs 0 ])
first_of-append [] gs None e = refl
first_of-append [] gs (Some f) e = cc
first_of-append (g ∷ fs) gs None e = cc
first_of-append (g ∷ fs) gs (Some f) e = e

module _ (docs : List Doc) (i : ℕ) (doc : Doc) (within : i < length docs) (at : doc ≡ get_or docs i doc) where
  pub first_at : (found : PlacedFault) → slice_get (faults_from i 0 doc.pairs) 0 ≡ Some found → first_from i (drop i docs) ≡ Some found
  first_at found is = ap (first_from i) (one_more docs i doc within at) ∙ first_of-append (faults_from i 0 doc.pairs) _ (Some found) is

  pub first_after : slice_get (faults_from i 0 doc.pairs) 0 ≡ None → first_from i (drop i docs) ≡ first_from (i + 1) (drop (i + 1) docs)
  first_after is = ap (first_from i) (one_more docs i doc within at) ∙ first_of-append (faults_from i 0 doc.pairs) _ None is
