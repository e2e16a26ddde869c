-- What a writer shows by its fields. A reader of contracts may skip this file.
use Rattle.std.specs.Prelude.{◌≡◌, ℕ, ◌+◌, ◌^◌, ◌<◌, ◌≤◌, ◌==◌, ◌&&◌, List, [], ◌∷◌, ◌++◌, length, unwrap_or, Bool, true, bytes_eq, nat_lt, if◌then◌else◌, Option, Some, None, option_map}
use Rattle.std.specs.Int.{w32, w64, to_le_bytes}
use Rattle.owned_bytes.specs.Front.{◌>>=◌, provided, pieces}
use Rattle.owned_bytes.specs.Keys.{Key, is_rising}
use Rattle.sstable_values.specs.Values.{Values}
use Rattle.sstable_values.specs.Codec.{Codec}
use Rattle.sstable_blocks.specs.Block.{front_of_deltas}
unfoldable use Rattle.sstable_blocks.specs.Block.{keys_of, paired}
use Rattle.sstable_blocks.specs.Run.{Block, entries_of, last_key}
unfoldable use Rattle.sstable_blocks.specs.Run.{whole_run_of}
use Rattle.sstable_blocks.specs.Writing.{WriterState, IsOpen, keys_in}
use Rattle.sstable_format.specs.Index.{IndexEntry}
use Rattle.sstable_format.specs.Table.{keeping_nothing, reaches, is_below_first}
unfoldable use Rattle.sstable_format.specs.Table.{places_from, points_to}
use Rattle.sstable_index.specs.Building.{most_keys}
use Rattle.sstable_index.specs.declared.write_errors.SstWriteError.{SstWriteError}
use Rattle.sstable_index.specs.declared.write_errors.SstWriteError.TheVariants.{BlockTooLong, Spent}
use Rattle.sstable_tables.specs.Making.{Making, values_by, bytes_of, last_bytes, is_due, open_block}

-- the entries that deltas and values make
unfoldable pub entries_by : {V : Type 0} → Values V → List ℕ → Option (List (Key × V))
entries_by values [] = paired [] values
entries_by values (b ∷ deltas) = do
  found ← pieces front_of_deltas (b ∷ deltas)
  keys ← keys_of [] found.0
  paired keys values

-- the entries of the open block
abbrev pub open_entries : {W V : Type 0} → WriterState W V → List (Key × V)
open_entries state = unwrap_or (entries_by state.values state.deltas) []

-- the bytes of the blocks that were written out, where they are told: the last ones of the sink, as many as were counted
abbrev pub closed_bytes : {W V : Type 0} → WriterState W V → Option (List ℕ)
closed_bytes state = if state.counted == 0 then Some [] else option_map (last_bytes state.counted) state.written

-- the last key of blocks isn't above the last one of their index
abbrev pub is_reached : Option Key → Option Key → Bool
is_reached last None = true
is_reached last (Some key) = reaches last key

-- blocks agree with what a writer keeps of them: their bytes and how many these are, their index, and how many entries
-- they have
abbrev pub agree : {V : Type 0} → List IndexEntry → ℕ → ℕ → List ℕ → List (Block V) → Bool
agree index counted first bytes blocks =
    (counted == length bytes) && (bytes_eq bytes (bytes_of blocks) && (points_to index blocks (places_from 0 0 blocks)
    && ((first == length (entries_of blocks)) && is_reached (last_key (entries_of blocks)) (last_key index))))

-- the blocks that were written out, where they are told
unfoldable pub closed_blocks : {W V : Type 0} → Codec V → WriterState W V → List IndexEntry → ℕ → Option (List (Block V))
closed_blocks codec state index first = do
  bytes ← closed_bytes state
  run ← whole_run_of (keeping_nothing codec) bytes
  _ ← provided (length run.rest == 0)
  _ ← provided (agree index state.counted first bytes run.blocks)
  Some run.blocks

-- the key that was inserted last
abbrev pub last_inserted : ℕ → Key → Option Key
last_inserted n key = if n == 0 then None else Some key

-- what a writer shows, by what its writer of blocks shows, its last key, its count, the position of the open block's first
-- key, and its refusal
abbrev pub made : {W V : Type 0} → Codec V → WriterState W V → List IndexEntry → Key → ℕ → ℕ → Option SstWriteError → Making W V
made codec state index previous n first refusal = record {
  closed = closed_blocks codec state index first;
  gathered = open_entries state;
  last = last_inserted n previous;
  count = n;
  block_len = state.block_len;
  refusal = refusal;
  index = index;
  counted = state.counted;
  sink = state.sink;
}

-- the last index key is below the first of the entries that follow
abbrev pub ends_below : {V : Type 0} → List IndexEntry → List (Key × V) → Bool
ends_below [] following = true
ends_below (entry ∷ []) following = is_below_first entry.0 following
ends_below (entry ∷ next ∷ entries) following = ends_below (next ∷ entries) following

-- a block may come behind the last one that starts at this place, and whose first key has this position
abbrev pub MayStart : List IndexEntry → ℕ → ℕ → Type 0
MayStart [] start first = Unit {0}
MayStart (entry ∷ []) start first =
    (start ≡ entry.1.end) × (entry.1.first_ordinal ≤ first) × (first ≤ entry.1.first_ordinal + most_keys)
MayStart (entry ∷ next ∷ entries) start first = MayStart (next ∷ entries) start first

-- How a writer stands while it is ready: the entries of its open block, and how the index ends before them.
pub record Stands {W V : Type 0} (codec : Codec V) (state : WriterState W V) (index : List IndexEntry) (previous : Key) (n first : ℕ) : Type 0 where
  pub open_block : IsOpen state (open_entries state)
  pub values : state.values ≡ values_by codec.everywhere (open_entries state)
  pub fits : length state.deltas < 2 ^ 64
  pub count : n ≡ first + length (open_entries state)
  pub last : last_key (open_entries state) ≡ (if nat_lt first n then Some previous else None)
  pub small : state.counted + 4 < 2 ^ 64
  pub few : n < 2 ^ 64
  pub rising : is_rising (keys_in index) ≡ true
  pub below : ends_below index (open_entries state) ≡ true
  pub last_block : first ≡ n → last_key index ≡ last_inserted n previous
  pub next_block : MayStart index state.counted first

-- what each later call answers after a block wasn't written out for this reason
abbrev pub refusal_by : SstWriteError → SstWriteError
refusal_by BlockTooLong = BlockTooLong
refusal_by _ = Spent

-- the footer of a table of version 3
abbrev pub footer : ℕ → ℕ → List ℕ
footer index_offset count = to_le_bytes w64 index_offset ++ (to_le_bytes w64 count ++ to_le_bytes w32 3)

-- a refusal for good
abbrev pub IsRefusal : Option SstWriteError → Type 0
IsRefusal None = Unit {0}
IsRefusal (Some BlockTooLong) = Unit {0}
IsRefusal (Some Spent) = Unit {0}
IsRefusal (Some _) = ⊥

-- How a writer stands.
pub record IsMaking {W V : Type 0} (codec : Codec V) (written : W → Option (List ℕ)) (faults : W → ℕ) (state : WriterState W V) (index : List IndexEntry) (previous : Key) (n first : ℕ) (refusal : Option SstWriteError) : Type 0 where
  pub told : state.written ≡ written state.sink
  pub failed : state.faults ≡ faults state.sink
  pub final : IsRefusal refusal
  pub stands : refusal ≡ None → Stands codec state index previous n first

-- the blocks that a call closed
abbrev pub closed_now : {W V : Type 0} → Codec V → Making W V → List (Block V)
closed_now codec w = if is_due w then open_block codec w else []

-- These blocks stand before the open one: they are a run, and their index, bytes and entries are as a writer says.
pub record AreBlocks {W V : Type 0} (codec : Codec V) (w : Making W V) (blocks : List (Block V)) : Type 0 where
  pub run : whole_run_of (keeping_nothing codec) (bytes_of blocks) ≡ Some (record { blocks = blocks; rest = [] })
  pub points : points_to w.index blocks (places_from 0 0 blocks) ≡ true
  pub size : w.counted ≡ length (bytes_of blocks)
  pub count : w.count ≡ length (entries_of blocks) + length w.gathered
