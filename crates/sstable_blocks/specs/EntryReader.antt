-- Where a reader of entries stands, by its fields.
use Rattle.std.specs.Prelude.{◌≡◌, Option, Some, None, Result, Ok, Err, Bool, true, false, slice_range}
use Rattle.owned_bytes.specs.Front.{◌>>=◌}
use Rattle.sstable_values.specs.declared.errors.BlockError.{BlockError}
use Rattle.sstable_blocks.specs.declared.entry_reader.Standing.{Standing}
use Rattle.sstable_blocks.specs.declared.entry_reader.Standing.TheVariants.{Between, AtEntry, Ended, Failed}
use Rattle.sstable_blocks.specs.declared.entry_reader.EntryReader.{EntryReader}
use Rattle.sstable_values.specs.Values.{Values, value_at}
use Rattle.sstable_blocks.specs.BlockReader.{unread}
use Rattle.sstable_blocks.specs.Entries.{Entry, Walk, within_block}
use Rattle.sstable_blocks.specs.Slices.{Sliced}

-- the answer that stays
abbrev pub final_of : Standing → Option (Result Bool BlockError)
final_of Between = None
final_of AtEntry = None
final_of Ended = Some (Ok false)
final_of (Failed error) = Some (Err error)

-- the last entry that was read
abbrev pub last_entry : {T V : Type 0} → (T → Values V) → EntryReader T → Option (Entry V)
last_entry loaded reader = do
  value ← value_at (loaded reader.value_reader) reader.idx
  Some (record {
    delta = record {
      keep = reader.common_prefix_len;
      suffix = slice_range reader.block_reader.block reader.suffix_range.start reader.suffix_range.end;
    };
    value = value;
  })

-- that entry, where it is the current one
abbrev pub if_current : {V : Type 0} → Standing → Option (Entry V) → Option (Entry V)
if_current Between entry = None
if_current AtEntry entry = entry
if_current Ended entry = None
if_current (Failed error) entry = None

-- where a reader stands in its slice, by what its reader of values loaded
abbrev pub walk : {T V : Type 0} → (T → Values V) → EntryReader T → Walk V
walk loaded reader = record {
  current = if_current reader.standing (last_entry loaded reader);
  values = loaded reader.value_reader;
  given = reader.given;
  deltas = unread reader.block_reader;
  rest = reader.block_reader.rest;
  place = reader.block_reader.place;
}

abbrev pub sliced : {T V : Type 0} → (T → Values V) → EntryReader T → Sliced V
sliced loaded reader = record {
  walk = walk loaded reader;
  more = reader.block_reader.more;
  ordinal = reader.block_reader.ordinal;
  final = final_of reader.standing;
}

-- what a step within a block did
abbrev pub StepsWithin : {V : Type 0} → Sliced V → Sliced V → Result Bool BlockError → Type 0
StepsWithin old new (Ok true) = (within_block old.walk ≡ Ok (Some new.walk)) × (new.more ≡ old.more) × (new.ordinal ≡ old.ordinal)
StepsWithin old new (Ok false) = ⊥
StepsWithin old new (Err e) = within_block old.walk ≡ Err e
