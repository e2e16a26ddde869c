-- What stands in an index file before its table.
use Rattle.std.specs.Prelude.{ℕ, ◌-◌, ◌*◌, List}
use Rattle.std.specs.Int.{w32, w64}
use Rattle.owned_bytes.specs.Front.{Reading, number_at, bytes_at}
use Rattle.owned_bytes.specs.Reader.{◌>>=◌, give}
use Rattle.tantivy_bitpacker.specs.Packed.{num_bits, bytes_for, unpacked}

-- the number of documents, how many numbers of documents follow, and these packed
pub record Header : Type 0 where
  pub documents : ℕ
  pub count : ℕ
  pub packed : List ℕ

-- how many bytes the two counts at the front of a file take
abbrev pub header_len : ℕ
header_len = 12

-- the width of the numbers of so many documents
abbrev pub width_of : ℕ → ℕ
width_of documents = num_bits (documents - 1)

-- how many bytes so many numbers of so many documents are packed in
abbrev pub packed_length : ℕ → ℕ → ℕ
packed_length documents count = bytes_for (count * width_of documents)

abbrev pub header_at : Reading Header
header_at = do
  documents ← number_at w32
  count ← number_at w64
  packed ← bytes_at (packed_length documents count)
  give (record { documents = documents; count = count; packed = packed })

-- the numbers of all keys, one list after the other
abbrev pub numbers_in : Header → List ℕ
numbers_in header = unpacked header.count (width_of header.documents) header.packed
