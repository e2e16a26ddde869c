-- What a stream knows of the last key that it passed, whose bytes it needs not have.
use Rattle.std.specs.Prelude.{◌≡◌, ℕ, List, [], unwrap_or, Bool, true, Option, Some, None, IfSome, ◌⊎◌, ◌&&◌}
use Rattle.std.specs.declared.cmp.Ordering.{Ordering}
use Rattle.std.specs.declared.ops.Bound.{Bound}
use Rattle.owned_bytes.specs.Keys.{Key, is_below, shared}
use Rattle.common_wire.specs.Tracking.{Tracks}
use Rattle.fst_map.specs.Automaton.{Machine, takes}
use Rattle.sstable_blocks.specs.Comparing.{key_from, Compares}
use Rattle.sstable_streams.specs.Between.{is_above_lower, is_below_upper, target_of}
use Rattle.sstable_streams.specs.States.{states_of}

-- A bound, and how a key stands against it.
pub record Beside : Type 0 where
  pub bound : Bound Key
  -- the order of the key against the bound's
  pub order : Ordering
  -- how many bytes both have in common, where the key isn't above
  pub matched : ℕ

-- this is the key that stands so
abbrev pub IsBeside : Beside → Key → Type 0
IsBeside beside key = IfSome (target_of beside.bound) (λ target. Compares target key beside.order beside.matched)

-- What is known of a key, and which keys are looked for: those within two bounds that a machine takes.
pub record Known (S : Type 0) : Type 0 where
  pub machine : Machine S
  pub lower : Beside
  pub upper : Beside
  -- the state after each front of the key
  pub states : List S
  -- the key, where it is kept
  pub kept : Option Key

-- this is the key of which that is known
pub record Knows {S : Type 0} (known : Known S) (key : Key) : Type 0 where
  pub along : known.states ≡ states_of known.machine key
  pub tracked : Tracks known.kept key
  pub at_lower : IsBeside known.lower key
  pub at_upper : IsBeside known.upper key

-- the key lies within both bounds, and the machine takes it
abbrev pub is_chosen : {S : Type 0} → Bound Key → Bound Key → Machine S → Key → Bool
is_chosen lower upper machine key = is_above_lower lower key && (is_below_upper upper key && takes machine key)

-- the key is looked for
abbrev pub is_wanted : {S : Type 0} → Known S → Key → Bool
is_wanted known key = is_chosen known.lower.bound known.upper.bound known.machine key

-- they look for the same keys
pub record LooksForSame {S : Type 0} (old new : Known S) : Type 0 where
  pub same_machine : new.machine ≡ old.machine
  pub same_lower : new.lower.bound ≡ old.lower.bound
  pub same_upper : new.upper.bound ≡ old.upper.bound

-- the key lies behind the last one, where there is one
abbrev pub is_behind : Option Key → Key → Bool
is_behind None key = true
is_behind (Some last) key = is_below last key

-- the key that keeps so much of the last one, and adds a suffix
abbrev pub next_key : Option Key → ℕ → List ℕ → Key
next_key last keep suffix = key_from (unwrap_or last []) keep suffix

-- That key may come next: it lies behind, and keeps all that both have in common, or nothing.
pub record ComesBehind (last : Option Key) (keep : ℕ) (suffix : List ℕ) : Type 0 where
  pub above : is_behind last (next_key last keep suffix) ≡ true
  pub keeps : (keep ≡ 0) ⊎ (keep ≡ shared (unwrap_or last []) (next_key last keep suffix))

-- it goes with the next key, which keeps so much of the last one and adds a suffix
abbrev pub GoesBeside : Beside → Beside → ℕ → List ℕ → Type 0
GoesBeside old new keep suffix = (last : Option Key) → IsBeside old (unwrap_or last []) → ComesBehind last keep suffix → IsBeside new (next_key last keep suffix)

-- the answer is whether the key lies above a lower bound
abbrev pub TellsAbove : Beside → Bool → Type 0
TellsAbove beside answer = (key : Key) → IsBeside beside key → answer ≡ is_above_lower beside.bound key

-- the answer is whether it lies below an upper bound
abbrev pub TellsBelow : Beside → Bool → Type 0
TellsBelow beside answer = (key : Key) → IsBeside beside key → answer ≡ is_below_upper beside.bound key

-- what is known goes with the next key
abbrev pub GoesWithKey : {S : Type 0} → Known S → Known S → ℕ → List ℕ → Type 0
GoesWithKey old new keep suffix = (last : Option Key) → Knows old (unwrap_or last []) → ComesBehind last keep suffix → Knows new (next_key last keep suffix)

-- the answer is whether the key lies below the upper bound
abbrev pub TellsUnder : {S : Type 0} → Known S → Bool → Type 0
TellsUnder known answer = (key : Key) → Knows known key → answer ≡ is_below_upper known.upper.bound key

-- the answer is whether the machine takes it
abbrev pub TellsMatch : {S : Type 0} → Known S → Bool → Type 0
TellsMatch known answer = (key : Key) → Knows known key → answer ≡ takes known.machine key

-- the answer is whether it lies above the lower bound, and the machine takes it
abbrev pub TellsTaken : {S : Type 0} → Known S → Bool → Type 0
TellsTaken known answer = (key : Key) → Knows known key → answer ≡ (is_above_lower known.lower.bound key && takes known.machine key)
