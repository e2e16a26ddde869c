-- What the steps of opening a table answer.
use Rattle.std.specs.Prelude.{◌≡◌, ℕ, ◌-◌, List, ⊤, true, false, Some, None, Result, Ok, Err}
use Rattle.common_wire.specs.Slices.{Span, span_len}
use Rattle.sstable_format.specs.declared.footer.Footer.{Footer}
use Rattle.sstable_format.specs.Footer.{footer_len}
use Rattle.sstable_format.specs.Ending.{HasFooter}
use Rattle.sstable_format.specs.Table.{parts_of, index_part_at}
use Rattle.sstable_format.specs.Version.{version_of, is_known, has_unknown_version}
use Rattle.sstable_index.specs.Reading.{ReadsIndex}
use Rattle.sstable_index.specs.declared.errors.SstError.{SstError}
use Rattle.sstable_index.specs.declared.errors.SstError.TheVariants.{Memory, Read, Corrupt, Compressed, Version}
use Rattle.sstable_index.specs.declared.index.SSTableIndex.{SSTableIndex}

-- what the end of a table tells
abbrev pub ReadsFooter : Result Footer SstError → List ℕ → Type 0
ReadsFooter (Ok footer) table = HasFooter table footer
ReadsFooter (Err Memory) table = ⊤
ReadsFooter (Err Read) table = ⊤
ReadsFooter (Err Corrupt) table = (has_unknown_version table ≡ false) × (parts_of table ≡ None)
ReadsFooter (Err (Compressed place)) table = ⊥
ReadsFooter (Err (Version version)) table = (version_of table ≡ Some version) × (is_known version ≡ false)

-- what the index part before a table's footer tells
abbrev pub ReadsIndexAt : Footer → Result SSTableIndex SstError → List ℕ → Type 0
ReadsIndexAt footer (Err Memory) table = ⊤
ReadsIndexAt footer (Err Read) table = ⊤
ReadsIndexAt footer result table = ReadsIndex footer (index_part_at footer.index_offset table) result

-- the length of the index part of a table at a range
abbrev pub part_len : Footer → Span → ℕ
part_len footer range = span_len range - footer_len - footer.index_offset
