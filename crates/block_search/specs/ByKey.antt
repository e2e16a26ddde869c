-- Where a key stands among the entries of blocks.
use Rattle.std.specs.Prelude.{◌≡◌, ℕ, List, [], ◌∷◌, ◌++◌, length, map, All, true, None, Some, Result, Ok, Err}
use Rattle.owned_bytes.specs.Keys.{Key, is_below, is_rising}
use Rattle.sstable_values.specs.declared.errors.BlockError.{BlockError}
use Rattle.sstable_values.specs.declared.errors.BlockError.TheVariants.{Memory}
use Rattle.sstable_values.specs.Codec.{Codec}
use Rattle.sstable_blocks.specs.Entries.{Entry}
use Rattle.sstable_blocks.specs.Slices.{Sliced, entries_here}
use Rattle.block_search.specs.declared.by_key.KeyHit.{KeyHit}
use Rattle.block_search.specs.declared.by_key.KeyHit.TheVariants.{Exact, Next}

abbrev pub keys_in : {V : Type 0} → List (Key × V) → List Key
keys_in entries = map (λ entry. entry.0) entries

-- The entries are so many with keys below this one, and then the others.
pub record HasBelow {V : Type 0} (key : Key) (count : ℕ) (others entries : List (Key × V)) : Type 0 where
  pub below : List (Key × V)
  pub parts : entries ≡ below ++ others
  pub counted : length below ≡ count
  pub under : All (λ entry. is_below entry.0 key ≡ true) below

-- behind the keys below it stands the key itself, with this value
abbrev pub StandsAt : {V : Type 0} → Key → ℕ → V → List (Key × V) → Type 0
StandsAt {V} key count value entries = (others : List (Key × V)) × HasBelow key count ((key, value) ∷ others) entries

-- behind the keys below it all keys are above it
abbrev pub IsMissingAt : {V : Type 0} → Key → ℕ → List (Key × V) → Type 0
IsMissingAt {V} key count entries =
    (others : List (Key × V)) × HasBelow key count others entries × (is_rising (key ∷ keys_in others) ≡ true)

-- the reader stands at the entry of the key
abbrev pub AtEntryOf : {V : Type 0} → Key → ℕ → List (Key × V) → Sliced V → Type 0
AtEntryOf {V} key count entries new =
    (entry : Entry V) × (new.walk.current ≡ Some entry) × StandsAt key count entry.value entries

-- where the key stands among these entries; it fails for want of memory alone
abbrev pub FindsKey : {V : Type 0} → Key → List (Key × V) → Sliced V → Result KeyHit BlockError → Type 0
FindsKey key entries new (Ok (Exact count)) = AtEntryOf key count entries new
FindsKey key entries new (Ok (Next count)) = IsMissingAt key count entries
FindsKey key entries new (Err e) = e ≡ Memory

-- the same, whatever entries were to come in the reader's only slice, of which none was given
abbrev pub LooksForKey : {V : Type 0} → Codec V → Sliced V → Sliced V → Key → Result KeyHit BlockError → Type 0
LooksForKey {V} codec old new key result =
    (entries : List (Key × V)) → old.more ≡ [] → entries_here codec None old ≡ Some entries → is_rising (keys_in entries) ≡ true
    → FindsKey key entries new result
