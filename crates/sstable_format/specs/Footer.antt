-- The last bytes of a table.
use Rattle.std.specs.Prelude.{ℕ}
use Rattle.std.specs.Int.{w32, w64}
use Rattle.owned_bytes.specs.Front.{Reading, number_at}
use Rattle.owned_bytes.specs.Reader.{◌>>=◌, give}
use Rattle.sstable_format.specs.declared.footer.Footer.{Footer}

-- how many bytes a footer has
abbrev pub footer_len : ℕ
footer_len = 20

-- where the index part begins, how many entries there are, and the version
abbrev pub footer_at : Reading Footer
footer_at = do
  index_offset ← number_at w64
  num_terms ← number_at w64
  version ← number_at w32
  give (record { index_offset = index_offset; num_terms = num_terms; version = version })
