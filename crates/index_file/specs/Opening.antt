-- Which files can be opened.
use Rattle.std.specs.Prelude.{◌≡◌, ℕ, List, true, false, None}
use Rattle.sstable_format.specs.Version.{has_known_version, has_unknown_version}
use Rattle.index_file.specs.IndexFile.{table_of}

-- the file is of a version that is read
abbrev pub CanBeOpened : List ℕ → Type 0
CanBeOpened file = has_known_version file ≡ true

-- the file is an index of no documents, and not for its version
pub record IsDamaged (file : List ℕ) : Type 0 where
  pub no_other_version : has_unknown_version file ≡ false
  pub no_table : table_of file ≡ None
