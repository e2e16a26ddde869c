-- How an index part of version 2 is read. A reader of contracts may skip this file.
use Rattle.std.specs.Prelude.{◌≡◌, ℕ, ◌+◌, ◌<◌, ◌≤◌, ◌^◌, List, [], ◌∷◌, ◌++◌, length, drop, Bool, true, false, ⊤, Option, Some, None, is_none, unwrap_or, option_map, Result, Ok, Err, ◌&&◌, ◌||◌, ◌==◌}
use Rattle.owned_bytes.specs.Front.{◌>>=◌, provided, pieces}
use Rattle.owned_bytes.specs.Keys.{Key, is_below, shared}
use Rattle.sstable_values.specs.Codec.{Address, index}
use Rattle.sstable_blocks.specs.Block.{front_of_deltas, keys_of, keys_after, block_of}
use Rattle.sstable_blocks.specs.Comparing.{key_from}
use Rattle.sstable_blocks.specs.Run.{may_follow, front_of_blocks, blocks_after, entries_of}
use Rattle.sstable_blocks.specs.Writing.{keys_in}
use Rattle.sstable_format.specs.Index.{IndexEntry}
use Rattle.sstable_format.specs.Refused.{is_compressed_at}
use Rattle.sstable_index.specs.declared.load_errors.LoadError.{LoadError}
use Rattle.sstable_index.specs.declared.load_errors.LoadError.TheVariants.{Memory, Corrupt, Compressed}
use Rattle.sstable_index.specs.Building.{addresses_in}
use Rattle.sstable_index.specs.Loaded.{last_of}

-- the key comes after the one before, where there is one
abbrev pub comes_behind : Option Key → Key → Bool
comes_behind None key = true
comes_behind (Some before) key = is_below before key

-- The key that keeps so many bytes of the one before may come next: it keeps all that it shares with that, or nothing
-- where a block begins.
abbrev pub may_come : Bool → Option Key → ℕ → List ℕ → Bool
may_come begins before keep suffix =
    let last = unwrap_or before [] in
    let key = key_from last keep suffix in
    ((begins && (keep == 0)) || (keep == shared last key)) && comes_behind before key

-- the first of the keys comes after the one before, where there is one
abbrev pub are_behind : Option Key → List Key → Bool
are_behind before [] = is_none before
are_behind before (key ∷ keys) = comes_behind before key

-- the keys of deltas after the key before, from the first of a block on or from a later one
abbrev pub keys_left : Bool → Option Key → List ℕ → Option (List Key)
keys_left true before bytes = do
  deltas ← pieces front_of_deltas bytes
  keys ← keys_of (unwrap_or before []) deltas.0
  _ ← provided (are_behind before keys)
  Some keys
keys_left false before bytes = do
  deltas ← pieces front_of_deltas bytes
  keys_after (unwrap_or before []) deltas.0

-- these keys, and then those of deltas
abbrev pub with_keys_left : Bool → List Key → List ℕ → Option (List Key)
with_keys_left begins keys bytes = option_map (λ others. keys ++ others) (keys_left begins (last_of keys) bytes)

-- the entries of a block after the key before
abbrev pub entries_behind : Option Key → List ℕ → Option (List IndexEntry)
entries_behind before content = do
  entries ← block_of index (unwrap_or before []) content
  _ ← provided (may_follow before entries)
  Some entries

-- The entries of a block were added.
pub record AddsEntries (content : List ℕ) (old_keys new_keys : List Key) (old_addresses new_addresses : List Address) : Type 0 where
  pub entries : List IndexEntry
  pub found : entries_behind (last_of old_keys) content ≡ Some entries
  pub keys : new_keys ≡ old_keys ++ keys_in entries
  pub addresses : new_addresses ≡ old_addresses ++ addresses_in entries

-- damage is answered only where this holds, and a compressed block never
abbrev pub DamagedOnly : LoadError → Type 0 → Type 0
DamagedOnly Memory P = ⊤
DamagedOnly (Corrupt damage) P = P
DamagedOnly (Compressed place) P = ⊥

-- the entries of a run after the key before, and the bytes from its end on
abbrev pub run_left : Option Key → List ℕ → Option (List IndexEntry × List ℕ)
run_left before bytes = do
  contents ← pieces front_of_blocks bytes
  blocks ← blocks_after index before contents.0
  Some (entries_of blocks, contents.1)

-- these entries, and then those of a run
abbrev pub with_run_left : List IndexEntry → List ℕ → Option (List IndexEntry × List ℕ)
with_run_left entries bytes =
    option_map (λ (run : List IndexEntry × List ℕ). (entries ++ run.0, run.1)) (run_left (last_of (keys_in entries)) bytes)

-- These entries were read, up to an end in the bytes.
pub record HasRead (bytes : List ℕ) (keys : List Key) (addresses : List Address) (end : ℕ) (rest : List ℕ) : Type 0 where
  pub entries : List IndexEntry
  pub keys_are : keys ≡ keys_in entries
  pub addresses_are : addresses ≡ addresses_in entries
  pub left : with_run_left entries rest ≡ run_left None bytes
  pub within : end ≤ length bytes
  pub rest_is : rest ≡ drop end bytes

-- The run that the bytes begin with was read, up to an end in them.
pub record RunIs (bytes : List ℕ) (keys : List Key) (addresses : List Address) (end : ℕ) : Type 0 where
  pub entries : List IndexEntry
  pub keys_are : keys ≡ keys_in entries
  pub addresses_are : addresses ≡ addresses_in entries
  pub run : run_left None bytes ≡ Some (entries, drop end bytes)
  pub within : end ≤ length bytes

-- a run is not read only where there is none; a compressed block stands at its place
abbrev pub IsNoRun : List ℕ → LoadError → Type 0
IsNoRun bytes Memory = ⊤
IsNoRun bytes (Corrupt damage) = run_left None bytes ≡ None
IsNoRun bytes (Compressed place) = (run_left None bytes ≡ None) × (is_compressed_at place bytes ≡ true)
