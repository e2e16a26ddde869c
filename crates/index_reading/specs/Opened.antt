-- What an opened index has in its file.
use Rattle.std.specs.Prelude.{◌≡◌, ℕ, ◌+◌, ◌<◌, ◌≤◌, List, All, take, drop, true, Option, option_and_then}
use Rattle.owned_bytes.specs.Front.{◌>>=◌}
use Rattle.sstable_values.specs.Codec.{range}
use Rattle.tantivy_sstable.specs.Opened.{entries_in}
use Rattle.documents.specs.Postings.{Postings}
use Rattle.index_file.specs.Header.{Header, header_len, packed_length}
use Rattle.index_file.specs.IndexFile.{postings_of, is_increasing}
use Rattle.index_reading.specs.declared.open.OpenIndex.{OpenIndex}

-- the header, with the packed numbers that the file has behind it
abbrev pub header_of : OpenIndex → List ℕ → Header
header_of index file = record {
  documents = index.documents;
  count = index.count;
  packed = take (packed_length index.documents index.count) (drop header_len file);
}

-- the keys of the dictionary with their numbers, where these make up an index
unfoldable pub postings_in : OpenIndex → List ℕ → Option Postings
postings_in index file = do
  entries ← entries_in range index.dictionary file
  postings_of (header_of index file) entries

-- the same, where the contents are told
abbrev pub postings_told : OpenIndex → Option (List ℕ) → Option Postings
postings_told index contents = option_and_then (postings_in index) contents

-- what the index knows lies within a file of so many bytes
pub record LiesIn (index : OpenIndex) (size : ℕ) : Type 0 where
  pub packed : header_len + packed_length index.documents index.count ≤ size
  pub blocks : index.dictionary.blocks_range.end ≤ size

-- numbers of documents, of which there are so many, in rising order
pub record AreNumbers (documents : ℕ) (numbers : List ℕ) : Type 0 where
  pub rising : is_increasing numbers ≡ true
  pub below : All (λ number. number < documents) numbers
