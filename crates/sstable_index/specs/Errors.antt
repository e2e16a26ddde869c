-- The errors of blocks, values and files, by the names of this crate.
use Rattle.std.specs.Prelude.{◌≡◌, ℕ, ◌+◌, ◌-◌, ◌^◌, min, Result, Err}
use Rattle.owned_bytes.specs.declared.outside.HandleError.{HandleError}
use Rattle.owned_bytes.specs.declared.outside.HandleError.TheVariants as handle
use Rattle.sstable_values.specs.declared.errors.BlockError.{BlockError}
use Rattle.sstable_values.specs.declared.errors.BlockError.TheVariants as blocks
use Rattle.sstable_values.specs.declared.errors.ValueError.{ValueError}
use Rattle.sstable_values.specs.declared.errors.ValueError.TheVariants as values
use Rattle.sstable_blocks.specs.declared.errors.DeltaError.{DeltaError}
use Rattle.sstable_blocks.specs.declared.errors.DeltaError.TheVariants as deltas
use Rattle.sstable_index.specs.declared.errors.SstError.{SstError}
use Rattle.sstable_index.specs.declared.errors.SstError.TheVariants as errors
use Rattle.sstable_index.specs.declared.load_errors.SSTableDataCorruption.{SSTableDataCorruption}
use Rattle.sstable_index.specs.declared.load_errors.LoadError.{LoadError}
use Rattle.sstable_index.specs.declared.load_errors.LoadError.TheVariants as loading
use Rattle.sstable_index.specs.declared.write_errors.SstWriteError.{SstWriteError}
use Rattle.sstable_index.specs.declared.write_errors.SstWriteError.TheVariants as writing

abbrev pub error_of_block : BlockError → SstError
error_of_block blocks.Memory = errors.Memory
error_of_block blocks.Corrupt = errors.Corrupt
error_of_block (blocks.Compressed place) = errors.Compressed place

abbrev pub error_of_handle : HandleError → SstError
error_of_handle handle.Memory = errors.Memory
error_of_handle handle.Failed = errors.Read

-- the file itself failed
abbrev pub ReadFailed : {T : Type 0} → Result T SstError → Type 0
ReadFailed result = result ≡ Err errors.Read

abbrev pub error_of_value : ValueError → SstWriteError
error_of_value values.Memory = writing.Memory
error_of_value values.Refused = writing.ValueRefused

abbrev pub error_of_delta : DeltaError → SstWriteError
error_of_delta deltas.Memory = writing.Memory
error_of_delta deltas.Write = writing.Write
error_of_delta deltas.BlockTooLong = writing.BlockTooLong

abbrev pub damage : SSTableDataCorruption
damage = record {}

abbrev pub load_error_of_block : BlockError → LoadError
load_error_of_block blocks.Memory = loading.Memory
load_error_of_block blocks.Corrupt = loading.Corrupt damage
load_error_of_block (blocks.Compressed place) = loading.Compressed place

-- the error in a table whose index part begins at the place
abbrev pub error_in_table : ℕ → LoadError → SstError
error_in_table start loading.Memory = errors.Memory
error_in_table start (loading.Corrupt _) = errors.Corrupt
error_in_table start (loading.Compressed place) = errors.Compressed (min (start + place) (2 ^ 64 - 1))
