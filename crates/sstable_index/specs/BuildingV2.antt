-- Building an index part of version 2.
use Rattle.std.specs.Prelude.{◌≡◌, ◌≤◌, ◌⊎◌, ◌++◌, ℕ, List, [], length, drop, replicate, All, true, false, unwrap_or, Option, Some, Result, Ok, Err}
use Rattle.std.specs.Io.KnownBytes.{Appends, Keeps}
use Rattle.owned_bytes.specs.Keys.{Key}
use Rattle.owned_bytes.specs.Outside.{AppendsPrefix}
use Rattle.sstable_values.specs.Values.{Listed}
use Rattle.sstable_values.specs.Codec.{Address, index}
use Rattle.sstable_blocks.specs.Run.{Block, whole_run_of, entries_of, last_key}
use Rattle.sstable_blocks.specs.Writing.{WriterState, IsOpen, keys_in, default_block_len}
use Rattle.sstable_format.specs.Index.{IndexEntry, Entries, index_of_version}
use Rattle.sstable_index.specs.declared.write_errors.SstWriteError.{SstWriteError}
use Rattle.sstable_index.specs.declared.write_errors.SstWriteError.TheVariants.{Memory, Write, Unsorted, ValueRefused, BlockTooLong, Spent}
use Rattle.sstable_index.specs.Building.{addresses_in, are_rising}

-- a key has at most so many bytes
abbrev pub longest_key : ℕ
longest_key = 65535

abbrev pub AreShort : List IndexEntry → Type 0
AreShort entries = All (λ key. length key ≤ longest_key) (keys_in entries)

-- An index part of version 2 that tells the entries, whose keys rise. It ends with four zero bytes behind its blocks.
pub record TellsEntries (entries : List IndexEntry) (part : List ℕ) : Type 0 where
  pub blocks : List ℕ
  pub ended : part ≡ blocks ++ replicate 4 0
  pub read : index_of_version 2 part ≡ Some (Entries entries)
  pub rising : are_rising entries ≡ true

-- such a part was appended
abbrev pub AppendsEntries : List IndexEntry → Option (List ℕ) → Option (List ℕ) → Type 0
AppendsEntries entries old new = (part : List ℕ) × TellsEntries entries part × Appends old new part

-- a call stopped in such a part
abbrev pub StopsEntries : List IndexEntry → Option (List ℕ) → Option (List ℕ) → Type 0
StopsEntries entries old new = (part : List ℕ) × TellsEntries entries part × AppendsPrefix old new part

-- What a call did that appends an index part of version 2.
abbrev pub SerializesV2 : List IndexEntry → Option (List ℕ) → Option (List ℕ) → Result (Unit {0}) SstWriteError → Type 0
SerializesV2 entries old new (Ok _) = AppendsEntries entries old new
SerializesV2 entries old new (Err Memory) = ((are_rising entries ≡ true) × Keeps old new) ⊎ StopsEntries entries old new
SerializesV2 entries old new (Err Write) = StopsEntries entries old new
SerializesV2 entries old new (Err Unsorted) = (are_rising entries ≡ false) × Keeps old new
SerializesV2 entries old new (Err ValueRefused) = ⊥
SerializesV2 entries old new (Err BlockTooLong) = ⊥
SerializesV2 entries old new (Err Spent) = ⊥

-- So many entries were written: those of closed blocks, and then those of the open one, the last of which has this key.
pub record HasWritten {W : Type 0} (entries : List IndexEntry) (n : ℕ) (last : Key) (state : WriterState W Address) : Type 0 where
  pub bytes : List ℕ
  pub blocks : List (Block Address)
  pub opened : List IndexEntry
  pub told : state.written ≡ Some bytes
  pub run : whole_run_of index bytes ≡ Some (record { blocks = blocks; rest = [] })
  pub all : entries_of blocks ++ (opened ++ drop n entries) ≡ entries
  pub open_block : IsOpen state opened
  pub last_opened : unwrap_or (last_key opened) [] ≡ last
  pub stored : state.values ≡ Listed (addresses_in opened)
  pub small : length state.deltas ≤ default_block_len
  pub same_len : state.block_len ≡ default_block_len

-- the bytes are a run of blocks of these entries
abbrev pub IsRunOf : List IndexEntry → List ℕ → Type 0
IsRunOf entries bytes = (blocks : List (Block Address)) × (whole_run_of index bytes ≡ Some (record { blocks = blocks; rest = [] })) × (entries_of blocks ≡ entries)
