-- What a call of `mutate_or_create` does to a map and its arena.
use Rattle.std.specs.Prelude.{◌≡◌, ℕ, ◌+◌, ◌*◌, ◌<◌, ◌≤◌, ◌⊎◌, max, List, length, Option, Result, OnOk, OnErr, IfOk, IfErr}
use Rattle.tantivy_stacker.specs.declared.error.ArenaError.{ArenaError}
use Rattle.tantivy_stacker.specs.declared.error.ArenaError.TheVariants.{Memory, ArenaFull}
use Rattle.tantivy_stacker.specs.Arena.{Arena, spent, StaysFull, IsAtLimitFrom}
use Rattle.tantivy_stacker.specs.Maps.{Table, least_doubled, OwnMap, Finds, MapPuts, MapStays, MapWrite}
use Rattle.tantivy_stacker.specs.Probes.{IsAbsent}

-- the bytes of a new entry: the length of its key, the key and the value
abbrev pub entry_bytes : ℕ → List ℕ → ℕ
entry_bytes size key = 2 + length key + size

-- An updater may be called with what the map has at the key.
abbrev pub MayUpdate : {V : Type 0} → ℕ → (List ℕ → V) → Arena → Table → List ℕ → (Option V → Type 0) → Type 0
MayUpdate size item a t key pre = (before : Option _) → Finds size item a t key before → pre before

-- A value is what the updater made of what the map has at the key.
abbrev pub IsUpdated : {V : Type 0} → ℕ → (List ℕ → V) → Arena → Table → List ℕ → (Option V → V → Type 0) → V → Type 0
IsUpdated size item a t key post v = (before : Option _) × Finds size item a t key before × post before v

-- A table doubles, to at least `least_doubled` places, just where its places are at most twice its entries.
pub record DoublesWhereDue (t u : Table) : Type 0 where
  pub doubles : length t.places ≤ t.count * 2 → length u.places ≡ max (length t.places * 2) least_doubled
  pub stays : t.count * 2 < length t.places → length u.places ≡ length t.places

-- A call was to give a key the value that an updater makes of the value before.
pub record Mutates {V : Type 0} (size : ℕ) (item : List ℕ → V) (old new : Arena) (t u : Table) (key : List ℕ) (post : Option V → V → Type 0) (result : Result V ArenaError) : Type 0 where
  -- on Ok the map has the answer at the key, and all else as before
  pub puts : IfOk result (λ v. MapPuts size item old new t u key v)
  pub called : IfOk result (λ v. IsUpdated size item old t key post v)
  -- after an error the map has what it had, and the arena is as it was
  pub same : OnErr result (MapStays size item old new t u)
  pub arena : OnErr result (new ≡ old)
  -- the arena holds the map, and all other places are as they were
  pub write : MapWrite size old new t u
  -- the bytes of an entry were handed out, at most, and none where the key was there
  pub space : spent new ≤ spent old + entry_bytes size key
  pub there : (IsAbsent old t.places key → ⊥) → spent new ≡ spent old
  pub full : StaysFull (entry_bytes size key) old new
  -- the arena is full only at its limit, and where the key was not there
  pub absent : IfErr result (λ e. e ≡ ArenaFull → IsAbsent old t.places key)
  pub at_limit : IfErr result (λ e. e ≡ ArenaFull → IsAtLimitFrom (entry_bytes size key) old)
  -- the table doubles where that is due; where memory was wanting it may be as it was
  pub doubles : OnOk result (DoublesWhereDue t u)
  pub doubles_too : IfErr result (λ e. DoublesWhereDue t u ⊎ ((e ≡ Memory) × (u ≡ t)))
  -- a new key counts as one entry more, and nothing else does
  pub one_more : OnOk result (IsAbsent old t.places key → u.count ≡ t.count + 1)
  pub same_count : (IsAbsent old t.places key → ⊥) → u.count ≡ t.count
  pub no_more : OnErr result (u.count ≡ t.count)

-- The same of a map with an arena of its own.
abbrev pub MutatesOwn : {V : Type 0} → ℕ → (List ℕ → V) → OwnMap → OwnMap → List ℕ → (Option V → V → Type 0) → Result V ArenaError → Type 0
MutatesOwn size item old new key post result = Mutates size item old.arena new.arena old.table new.table key post result
