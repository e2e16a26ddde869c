-- Documents, as lists of pairs of a field and a term.
use Rattle.std.specs.Prelude.{ℕ, ◌+◌, ◌^◌, ◌<◌, ◌≤◌, ◌&&◌, ◌==◌, not, Bool, List, length, map, filter, All, Option, Some, None, option_map, sum_by, bytes_eq, nat_le, nat_lt, slice_get, if◌then◌else◌}
use Rattle.std.specs.List.{list_any, list_all, enumerate_from, filter_map, flat_map}
use Rattle.documents.specs.declared.documents.Pair.{Pair}
use Rattle.documents.specs.declared.documents.Doc.{Doc}
use Rattle.documents.specs.declared.faults.Fault.{Fault}
use Rattle.documents.specs.declared.faults.Fault.TheVariants.{BadField, KeyTooLong}
use Rattle.documents.specs.declared.faults.PlacedFault.{PlacedFault}

-- the document holds a term of this field that passes the test
abbrev pub holds_where : Doc → List ℕ → (List ℕ → Bool) → Bool
holds_where doc field test = list_any (λ pair. bytes_eq pair.field field && test pair.term) doc.pairs

-- the document holds this term in this field
abbrev pub holds : Doc → List ℕ → List ℕ → Bool
holds doc field term = holds_where doc field (λ found. bytes_eq found term)

-- the ascending numbers, from 0, of the documents that pass the test
abbrev pub numbers_where : (Doc → Bool) → List Doc → List ℕ
numbers_where test docs = map (λ numbered. numbered.0) (filter (λ numbered. test numbered.1) (enumerate_from 0 docs))

-- ---- what an index can keep

-- a field that is not empty and holds neither byte 0 nor byte 1
pub record IsField (field : List ℕ) : Type 0 where
  pub not_empty : 0 < length field
  pub no_separator : All (λ byte. 1 < byte) field

-- the length of a pair's key, which is the field, a byte 0 and the term
abbrev pub key_length : Pair → ℕ
key_length pair = length pair.field + 1 + length pair.term

-- how many bytes a key may have
abbrev pub longest_key : ℕ
longest_key = 65535

-- a pair that an index can keep
pub record IsValidPair (pair : Pair) : Type 0 where
  pub field : IsField pair.field
  pub short : key_length pair ≤ longest_key

-- documents that an index can keep
pub record AreValidDocuments (docs : List Doc) : Type 0 where
  pub few : length docs < 2 ^ 32
  pub pairs : All (λ doc. All IsValidPair doc.pairs) docs

-- the same as tests
abbrev pub is_field : List ℕ → Bool
is_field field = not (length field == 0) && list_all (λ byte. nat_lt 1 byte) field

abbrev pub is_short : Pair → Bool
is_short pair = nat_le (key_length pair) longest_key

-- what keeps a pair out of an index: its field before its length
abbrev pub fault_of : Pair → Option Fault
fault_of pair = if is_field pair.field then (if is_short pair then None else Some KeyTooLong) else Some BadField

-- the faults of these pairs of a document, the first of which has this place in it
abbrev pub faults_from : ℕ → ℕ → List Pair → List PlacedFault
faults_from doc place pairs =
    filter_map (λ numbered. option_map (λ fault. record { doc = doc; pair = numbered.0; fault = fault }) (fault_of numbered.1))
    (enumerate_from place pairs)

-- the fault of the first faulty pair of these documents, the first of which has this number
abbrev pub first_from : ℕ → List Doc → Option PlacedFault
first_from number docs = slice_get (flat_map (λ numbered. faults_from numbered.0 0 numbered.1.pairs) (enumerate_from number docs)) 0

-- the fault of the first faulty pair, in the order of the documents and of their pairs
abbrev pub first_fault : List Doc → Option PlacedFault
first_fault docs = first_from 0 docs

-- what a pair counts toward the size of documents
abbrev pub pair_size : Pair → ℕ
pair_size pair = length pair.field + length pair.term + 64

-- the size of documents, in which a pair that stands twice counts twice
abbrev pub documents_size : List Doc → ℕ
documents_size docs = sum_by (λ doc. sum_by pair_size doc.pairs) docs
