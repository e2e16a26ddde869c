-- The index file: the number of documents, packed lists of documents, and a table of keys with the places of their lists.
use Rattle.std.specs.Prelude.{◌≡◌, ℕ, zero, suc, ◌-◌, List, [], ◌∷◌, take, drop, map, Bool, true, false, Option, Some, None, nat_lt, ◌&&◌, ◌==◌}
use Rattle.std.specs.declared.ops.Range.{Range}
use Rattle.std.specs.List.{list_all}
use Rattle.owned_bytes.specs.Front.{◌>>=◌, provided}
use Rattle.owned_bytes.specs.Keys.{Key}
use Rattle.sstable_values.specs.Codec.{range}
use Rattle.sstable_format.specs.Table.{sst_of}
use Rattle.documents.specs.declared.documents.Pair.{Pair}
use Rattle.documents.specs.declared.documents.Doc.{Doc}
use Rattle.documents.specs.Documents.{AreValidDocuments, is_field, is_short}
use Rattle.documents.specs.Postings.{Postings, gather}
use Rattle.index_file.specs.Header.{Header, header_at, numbers_in}

-- nonempty ranges that adjoin from start to end
unfoldable pub adjoin : ℕ → ℕ → List (Range ℕ) → Bool
adjoin start end [] = start == end
adjoin start end (span ∷ spans) = (span.start == start) && (nat_lt span.start span.end && adjoin span.end end spans)

unfoldable pub is_increasing : List ℕ → Bool
is_increasing [] = true
is_increasing (a ∷ []) = true
is_increasing (a ∷ b ∷ numbers) = nat_lt a b && is_increasing (b ∷ numbers)

-- the bytes before the first byte 0, and those after it
unfoldable pub parted : Key → Option Pair
parted [] = None
parted (zero ∷ term) = Some (record { field = []; term = term })
parted (suc byte ∷ key) = do
  pair ← parted key
  Some (record { field = suc byte ∷ pair.field; term = pair.term })

-- the pair can stand in an index
abbrev pub is_pair : Pair → Bool
is_pair pair = is_field pair.field && is_short pair

-- the key of such a pair
abbrev pub is_key : Key → Bool
is_key key = elim (parted key) [ Some pair ↦ is_pair pair | None ↦ false ]

-- a key with the numbers at the places of its range
abbrev pub with_numbers : List ℕ → Key × Range ℕ → Key × List ℕ
with_numbers numbers entry = (entry.0, take (entry.1.end - entry.1.start) (drop entry.1.start numbers))

-- the key is of such a pair, and its numbers rise and are those of documents
abbrev pub is_posting : ℕ → Key × List ℕ → Bool
is_posting documents entry = is_key entry.0 && (is_increasing entry.1 && list_all (λ number. nat_lt number documents) entry.1)

-- the keys with their numbers, where the ranges adjoin from the first number to the last
abbrev pub postings_of : Header → List (Key × Range ℕ) → Option Postings
postings_of header entries = do
  let postings = map (with_numbers (numbers_in header)) entries
  _ ← provided (adjoin 0 header.count (map (λ entry. entry.1) entries))
  _ ← provided (list_all (is_posting header.documents) postings)
  Some (record { documents = header.documents; entries = postings })

-- what the file tells
unfoldable pub table_of : List ℕ → Option Postings
table_of file = do
  parts ← header_at file
  entries ← sst_of range parts.1
  postings_of parts.0 entries

-- the file is an index of the documents
pub record IsIndexOf (file : List ℕ) (docs : List Doc) : Type 0 where
  pub valid : AreValidDocuments docs
  pub table : table_of file ≡ Some (gather docs)
