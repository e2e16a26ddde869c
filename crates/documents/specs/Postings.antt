-- What documents gather to.
use Rattle.std.specs.Prelude.{ℕ, List, ◌∷◌, ◌++◌, length, map}
use Rattle.std.specs.List.{flat_map, list_any}
use Rattle.owned_bytes.specs.Keys.{Key, is_same, key_set}
use Rattle.documents.specs.declared.documents.Pair.{Pair}
use Rattle.documents.specs.declared.documents.Doc.{Doc}
use Rattle.documents.specs.Documents.{numbers_where}

-- how many documents there are, and each key with the numbers of the documents that have it
pub record Postings : Type 0 where
  pub documents : ℕ
  pub entries : List (Key × List ℕ)

-- a field, a byte 0 and a term
abbrev pub key_of : Pair → Key
key_of pair = pair.field ++ 0 ∷ pair.term

-- the keys of the documents, each once, in the order of their bytes
abbrev pub keys_of : List Doc → List Key
keys_of docs = key_set (flat_map (λ doc. map key_of doc.pairs) docs)

-- the ascending numbers of the documents that have a pair of this key
abbrev pub numbers_of : Key → List Doc → List ℕ
numbers_of key docs = numbers_where (λ doc. list_any (λ pair. is_same key (key_of pair)) doc.pairs) docs

-- the documents, as their keys with the numbers of the documents
unfoldable pub gather : List Doc → Postings
gather docs = record { documents = length docs; entries = map (λ key. (key, numbers_of key docs)) (keys_of docs) }
