-- How a writer gathers the entries of blocks.
use Rattle.std.specs.Prelude.{◌≡◌, ◌≢◌, ℕ, ◌+◌, ◌-◌, ◌^◌, ◌<◌, ◌≤◌, min, List, [], ◌∷◌, ◌++◌, length, drop, map, unwrap_or, Option, Some, None, Result, Ok, Err, Bool, true, IsTrue}
use Rattle.std.specs.List.{flat_map}
use Rattle.std.specs.Io.KnownBytes.{Appends}
use Rattle.std.specs.declared.ops.Range.{Range}
use Rattle.owned_bytes.specs.Keys.{Key, shared, is_rising}
use Rattle.owned_bytes.specs.Outside.{AppendsPrefix}
use Rattle.sstable_blocks.specs.declared.errors.DeltaError.{DeltaError}
use Rattle.sstable_blocks.specs.declared.errors.DeltaError.TheVariants.{Write, BlockTooLong}
use Rattle.sstable_values.specs.Values.{Values}
use Rattle.sstable_values.specs.Codec.{Codec, no_values}
use Rattle.sstable_blocks.specs.Content.{block}
use Rattle.sstable_blocks.specs.Block.{delta, deltas_between, paired}
use Rattle.sstable_blocks.specs.Run.{Block, last_key, may_follow, entries_of}
unfoldable use Rattle.sstable_blocks.specs.Run.{whole_run_of}

-- the length that a block's deltas may have before it is closed, where no other one was set
abbrev pub default_block_len : ℕ
default_block_len = 4000

-- the length word of a block tells numbers below this
abbrev pub length_limit : ℕ
length_limit = 2 ^ 32

-- What a writer of blocks shows.
pub record WriterState (W V : Type 0) : Type 0 where
  -- the deltas and the values of the open block
  pub deltas : List ℕ
  pub values : Values V
  -- a block is closed once it has more bytes of deltas than this
  pub block_len : ℕ
  -- the sink; the bytes written to it, where they are told, its count of faults, and the bytes that were counted
  pub sink : W
  pub written : Option (List ℕ)
  pub faults : ℕ
  pub counted : ℕ

-- the content of the open block
abbrev pub content : {W V : Type 0} → Codec V → WriterState W V → List ℕ
content codec state = codec.spelled state.values ++ state.deltas

-- with one more delta in the open block
abbrev pub with_delta : {W V : Type 0} → WriterState W V → ℕ → List ℕ → WriterState W V
with_delta state keep suffix = record state { deltas = state.deltas ++ delta (record { keep = keep; suffix = suffix }) }

-- the keys of entries
abbrev pub keys_in : {V : Type 0} → List (Key × V) → List Key
keys_in entries = map (λ entry. entry.0) entries

-- The open block has these entries: their keys rise, each keeps all that it shares with the one before it, and their
-- values were written.
pub record IsOpen {W V : Type 0} (state : WriterState W V) (entries : List (Key × V)) : Type 0 where
  pub spelled : state.deltas ≡ flat_map delta (deltas_between [] (keys_in entries))
  pub rising : IsTrue (is_rising (keys_in entries))
  pub paired : paired (keys_in entries) state.values ≡ Some entries

-- The key may come after these entries of its block, and is given by what it keeps of the last key and adds.
pub record IsNext {V : Type 0} (entries : List (Key × V)) (keep : ℕ) (suffix : List ℕ) (key : Key) : Type 0 where
  pub rising : IsTrue (is_rising (keys_in entries ++ key ∷ []))
  pub keep_all : keep ≡ shared (unwrap_or (last_key entries) []) key
  pub adds : suffix ≡ drop keep key

-- Where the key may come after the entries of the open block, that has it with the value behind them.
abbrev pub AddsEntry : {W V : Type 0} → WriterState W V → WriterState W V → ℕ → List ℕ → V → Type 0
AddsEntry {W} {V} old new keep suffix value =
    (entries : List (Key × V)) (key : Key) → IsOpen old entries → IsNext entries keep suffix key → IsOpen new (entries ++ (key, value) ∷ [])

-- The open block was written out, and the next one is empty.
pub record WritesBlock {W V : Type 0} (codec : Codec V) (old new : WriterState W V) (range : Range ℕ) : Type 0 where
  pub some : old.deltas ≢ []
  pub short : length (content codec old) + 1 < length_limit
  pub appended : Appends old.written new.written (block (content codec old))
  pub count : new.counted ≡ min (old.counted + length (block (content codec old))) (2 ^ 64 - 1)
  pub place : range ≡ record { start = old.counted; end = new.counted }
  pub no_delta : new.deltas ≡ []
  pub no_value : new.values ≡ no_values codec
  pub same_len : new.block_len ≡ old.block_len

-- The open block stays as it is, and a prefix of it was written; of one that is too long nothing was, and nothing changed.
pub record KeepsBlock {W V : Type 0} (codec : Codec V) (old new : WriterState W V) (e : DeltaError) : Type 0 where
  pub same_deltas : new.deltas ≡ old.deltas
  pub same_values : new.values ≡ old.values
  pub same_len : new.block_len ≡ old.block_len
  pub some : old.deltas ≢ []
  pub prefix : AppendsPrefix old.written new.written (block (content codec old))
  pub later : old.counted ≤ new.counted
  pub too_long : e ≡ BlockTooLong → length_limit ≤ length (content codec old) + 1
  pub short : e ≡ Write → length (content codec old) + 1 < length_limit
  pub nothing : e ≡ BlockTooLong → new ≡ old

-- What a call did that writes out the open block, if there is one.
abbrev pub Flushes : {W V : Type 0} → Codec V → WriterState W V → WriterState W V → Result (Option (Range ℕ)) DeltaError → Type 0
Flushes codec old new (Ok None) = (old.deltas ≡ []) × (new ≡ old)
Flushes codec old new (Ok (Some range)) = WritesBlock codec old new range
Flushes codec old new (Err e) = KeepsBlock codec old new e

-- the open block as a block of these entries
abbrev pub block_with : {W V : Type 0} → Codec V → WriterState W V → List (Key × V) → Block V
block_with codec state entries = record { content = content codec state; entries = entries }

-- Behind a run that ends with the bytes, the open block is one more block of the run, whether or not such a run lets the
-- first key of a block go on from the block before.
abbrev pub AddsToRun : {W V : Type 0} → Codec V → WriterState W V → Type 0
AddsToRun {W} {V} codec state =
    (goes_on : Bool) (bytes : List ℕ) (blocks : List (Block V)) (entries : List (Key × V)) → IsOpen state entries
    → let read = whole_run_of (record codec { goes_on = goes_on }) in
    read bytes ≡ Some (record { blocks = blocks; rest = [] }) → may_follow (last_key (entries_of blocks)) entries ≡ true
    → read (bytes ++ block (content codec state)) ≡ Some (record { blocks = blocks ++ block_with codec state entries ∷ []; rest = [] })
