-- The errors of files and tables, by the names of this crate.
use Rattle.std.specs.Prelude.{◌≡◌, ◌⊎◌, ℕ, ◌+◌, ◌-◌, ◌^◌, min, Result, Err}
use Rattle.owned_bytes.specs.declared.outside.HandleError.{HandleError}
use Rattle.owned_bytes.specs.declared.outside.HandleError.TheVariants as handle
use Rattle.sstable_index.specs.declared.errors.SstError.{SstError}
use Rattle.sstable_index.specs.declared.errors.SstError.TheVariants as tables
use Rattle.index_reading.specs.declared.errors.IndexError.{IndexError}
use Rattle.index_reading.specs.declared.errors.IndexError.TheVariants.{Memory, Read, Corrupt, Compressed, Version}

abbrev pub error_of_handle : HandleError → IndexError
error_of_handle handle.Memory = Memory
error_of_handle handle.Failed = Read

-- the error of a table that begins at a place of the file; no place is past the greatest `u64`
abbrev pub error_of_table : ℕ → SstError → IndexError
error_of_table start tables.Memory = Memory
error_of_table start tables.Read = Read
error_of_table start tables.Corrupt = Corrupt
error_of_table start (tables.Compressed place) = Compressed (min (place + start) (2 ^ 64 - 1))
error_of_table start (tables.Version version) = Version version

-- what a read of a file answers where it fails
abbrev pub IsReadError : IndexError → Type 0
IsReadError error = (error ≡ Memory) ⊎ (error ≡ Read)

-- the file itself failed
abbrev pub ReadFailed : {T : Type 0} → Result T IndexError → Type 0
ReadFailed result = result ≡ Err Read
