-- Worked files.
use Rattle.std.specs.Prelude.{◌≡◌, ℕ, List, [], ◌∷◌, take, codes, None}
use Rattle.sstable_values.specs.Hex.{hex}
use Rattle.documents.specs.declared.documents.Pair.{Pair}
use Rattle.documents.specs.declared.documents.Doc.{Doc}
use Rattle.index_file.specs.IndexFile.{IsIndexOf, table_of}

-- a pair of the field f
abbrev pub of_f : List ℕ → Pair
of_f term = record { field = codes "f"; term = term }

-- three documents of the field f: a; a and b; b
abbrev pub three_documents : List Doc
three_documents =
    record { pairs = of_f (codes "a") ∷ [] }
    ∷ record { pairs = of_f (codes "a") ∷ of_f (codes "b") ∷ [] }
    ∷ record { pairs = of_f (codes "b") ∷ [] } ∷ []

abbrev pub three_file : List ℕ
three_file = hex (codes "03000000 0400000000000000 94 0b000000 00 03000202 306600611262 00000000 0000000000000000 1300000000000000 0200000000000000 03000000")

abbrev pub empty_file : List ℕ
empty_file = hex (codes "00000000 0000000000000000 00000000 0000000000000000 0400000000000000 0000000000000000 03000000")

abbrev pub ThreeDocuments : Type 0
ThreeDocuments = IsIndexOf three_file three_documents

abbrev pub NoDocuments : Type 0
NoDocuments = IsIndexOf empty_file []

-- The file without its last byte, with a compress byte of 1 and with one of 7, and a file of four bytes are the index of
-- no documents.
pub record Damaged : Type 0 where
  pub cut : table_of (take 59 three_file) ≡ None
  pub compressed : table_of (hex (codes "03000000 0400000000000000 94 0b000000 01 03000202 306600611262 00000000 0000000000000000 1300000000000000 0200000000000000 03000000")) ≡ None
  pub other_byte : table_of (hex (codes "03000000 0400000000000000 94 0b000000 07 03000202 306600611262 00000000 0000000000000000 1300000000000000 0200000000000000 03000000")) ≡ None
  pub short : table_of (hex (codes "03000000")) ≡ None

-- a byte more in an index part that ends with eight bytes 0
abbrev pub OtherIndex : Type 0
OtherIndex = table_of (hex (codes "03000000 0400000000000000 94 0b000000 00 03000202 306600611262 00000000 ff 0000000000000000 1300000000000000 0200000000000000 03000000")) ≡ table_of three_file
