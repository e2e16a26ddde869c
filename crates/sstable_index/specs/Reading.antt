-- What reading an index part answers.
use Rattle.std.specs.Prelude.{◌≡◌, ℕ, ◌+◌, List, true, ⊤, Some, None, Result, Ok, Err}
use Rattle.sstable_format.specs.declared.footer.Footer.{Footer}
use Rattle.sstable_format.specs.Index.{IndexEntry, Entries}
use Rattle.sstable_format.specs.Refused.{is_compressed_at}
use Rattle.sstable_index.specs.declared.errors.SstError.{SstError}
use Rattle.sstable_index.specs.declared.errors.SstError.TheVariants.{Memory, Read, Corrupt, Compressed, Version}
use Rattle.sstable_index.specs.declared.load_errors.LoadError.{LoadError}
use Rattle.sstable_index.specs.declared.load_errors.LoadError.TheVariants as loading
use Rattle.sstable_index.specs.declared.index.SSTableIndex.{SSTableIndex}
use Rattle.sstable_index.specs.Shown.{shown_index, IsWhole}
use Rattle.sstable_index.specs.Usable.{usable_index, usable_entries}

-- What loading an index of version 2 answers. A table can have the index that is loaded. One that is damaged no table has,
-- nor one with a compressed block, which stands at the place.
abbrev pub LoadsV2 : List ℕ → Result (List IndexEntry) LoadError → Type 0
LoadsV2 part (Ok entries) = usable_index 2 part ≡ Some (Entries entries)
LoadsV2 part (Err loading.Memory) = ⊤
LoadsV2 part (Err (loading.Corrupt damage)) = usable_index 2 part ≡ None
LoadsV2 part (Err (loading.Compressed place)) = (usable_index 2 part ≡ None) × (is_compressed_at place part ≡ true)

-- What loading a map of this length and a store answers.
abbrev pub LoadsV3 : ℕ → List ℕ → Result (List IndexEntry) LoadError → Type 0
LoadsV3 map_length bytes (Ok entries) = usable_entries map_length bytes ≡ Some entries
LoadsV3 map_length bytes (Err loading.Memory) = ⊤
LoadsV3 map_length bytes (Err (loading.Corrupt damage)) = usable_entries map_length bytes ≡ None
LoadsV3 map_length bytes (Err (loading.Compressed place)) = ⊥

-- at a place of the index part, which is counted from the start of the table, a compressed block stands
abbrev pub IsCompressedIn : Footer → List ℕ → ℕ → Type 0
IsCompressedIn footer part place =
    (footer.version ≡ 2) × (within : ℕ) × (place ≡ footer.index_offset + within) × (is_compressed_at within part ≡ true)

-- What reading an index part by its footer answers. A table can have the index that was read, and one block is all bytes
-- before the index part.
abbrev pub ReadsIndex : Footer → List ℕ → Result SSTableIndex SstError → Type 0
ReadsIndex footer part (Ok index) =
    (usable_index footer.version part ≡ Some (shown_index index)) × IsWhole index footer.index_offset
ReadsIndex footer part (Err Memory) = ⊤
ReadsIndex footer part (Err Read) = ⊥
ReadsIndex footer part (Err Corrupt) = usable_index footer.version part ≡ None
ReadsIndex footer part (Err (Compressed place)) =
    (usable_index footer.version part ≡ None) × IsCompressedIn footer part place
ReadsIndex footer part (Err (Version version)) = ⊥
