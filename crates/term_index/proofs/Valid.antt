-- Valid documents have no fault.
use Rattle.std.proofs.Common.{◌≡◌, ◌<◌, ◌+◌, ◌&&◌, ℕ, inl, inr, List, [], ◌∷◌, ◌++◌, length, true, false, not, Option, Some, None, refl, ap, ◌∙◌, arith}
use Rattle.std.specs.Prelude.{nat_lt, ◌==◌, cond, option_map, slice_get}
use Rattle.std.specs.List.{All, AllByRecursion, list_all, cons_option, flat_map, enumerate_from}
use Rattle.std.proofs.lemmas.Bool.{lt-ltb, le-leb}
use Rattle.std.proofs.lemmas.Bool.Decides.{eqb_tells}
use Rattle.std.proofs.lemmas.List.Elements.{recursion_from_All}
use Rattle.documents.specs.declared.documents.Pair.{Pair}
use Rattle.documents.specs.declared.documents.Doc.{Doc}
use Rattle.documents.specs.declared.faults.Fault.{Fault}
use Rattle.documents.specs.declared.faults.Fault.TheVariants.{BadField, KeyTooLong}
use Rattle.documents.specs.declared.faults.PlacedFault.{PlacedFault}
use Rattle.documents.specs.Documents.{IsValidPair, AreValidDocuments, is_field, is_short, key_length, fault_of, faults_from, first_fault}

not_zero : (n : ℕ) → 0 < n → (n == 0) ≡ false
not_zero n h = elim (eqb_tells n 0) [ inl zero_is ↦ absurd (omega (arith, zero_is.1, h)) | inr other ↦ other.0 ]

no_separators : (field : List ℕ) → AllByRecursion (λ byte. 1 < byte) field → list_all (λ byte. nat_lt 1 byte) field ≡ true
no_separators [] h = refl
no_separators (byte ∷ bytes) h = ap (λ b. b && list_all (λ byte. nat_lt 1 byte) bytes) (lt-ltb 1 byte h.0) ∙ no_separators bytes h.1

valid_pair : (pair : Pair) → IsValidPair pair → fault_of pair ≡ None
valid_pair pair valid =
    let field : is_field pair.field ≡ true =
    ap (λ b. not b && list_all (λ byte. nat_lt 1 byte) pair.field) (not_zero (length pair.field) valid.field.not_empty)
    ∙ no_separators pair.field (recursion_from_All (λ byte. 1 < byte) pair.field valid.field.no_separator) in
    let short : is_short pair ≡ true = le-leb (key_length pair) 65535 valid.short in
    ap (λ b. cond b (cond (is_short pair) None (Some KeyTooLong)) (Some BadField)) field ∙ ap (λ b. cond b None (Some KeyTooLong)) short

valid_pairs : (doc place : ℕ) (pairs : List Pair) → AllByRecursion IsValidPair pairs → faults_from doc place pairs ≡ []
valid_pairs doc place [] h = refl
valid_pairs doc place (pair ∷ pairs) h =
    ap (λ (o : Option Fault). cons_option (option_map (λ fault. record { doc = doc; pair = place; fault = fault }) o) (faults_from doc (place + 1) pairs)) (valid_pair pair h.0)
    ∙ valid_pairs doc (place + 1) pairs h.1

valid_docs : (number : ℕ) (docs : List Doc) → AllByRecursion (λ doc. All IsValidPair doc.pairs) docs → flat_map (λ (numbered : ℕ × Doc). faults_from numbered.0 0 numbered.1.pairs) (enumerate_from number docs) ≡ []
valid_docs number [] h = refl
valid_docs number (doc ∷ docs) h =
    ap (λ (l : List PlacedFault). l ++ flat_map (λ (numbered : ℕ × Doc). faults_from numbered.0 0 numbered.1.pairs) (enumerate_from (number + 1) docs))
    (valid_pairs number 0 doc.pairs (recursion_from_All IsValidPair doc.pairs h.0))
    ∙ valid_docs (number + 1) docs h.1

pub valid_first : (docs : List Doc) → AreValidDocuments docs → first_fault docs ≡ None
valid_first docs valid =
    ap (λ (l : List PlacedFault). slice_get l 0) (valid_docs 0 docs (recursion_from_All (λ doc. All IsValidPair doc.pairs) docs valid.pairs))
