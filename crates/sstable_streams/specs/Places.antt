-- Where a stream stands, by its fields.
use Rattle.std.specs.Prelude.{◌≡◌, ℕ, List, [], Bool, false, Option, Some, None, Result, Ok, Err}
use Rattle.std.specs.declared.ops.Bound.{Bound}
use Rattle.owned_bytes.specs.Keys.{Key}
use Rattle.fst_map.specs.Automaton.{Machine}
use Rattle.sstable_values.specs.declared.errors.BlockError.{BlockError}
use Rattle.sstable_values.specs.Codec.{Codec}
use Rattle.sstable_blocks.specs.Placed.{Placed}
use Rattle.sstable_blocks.specs.Slices.{Sliced}
use Rattle.sstable_streams.specs.declared.edge.Edge.{Edge}
use Rattle.sstable_streams.specs.declared.trail.Trail.{Trail}
use Rattle.sstable_streams.specs.declared.cursor.Cursor.{Cursor}
use Rattle.sstable_streams.specs.Bounds.{bound_key}
use Rattle.sstable_streams.specs.declared.streamer.Standing.{Standing}
use Rattle.sstable_streams.specs.declared.streamer.Standing.TheVariants.{Between, AtEntry, Ended, Failed}
use Rattle.sstable_streams.specs.Knowing.{Beside, Known, Knows, LooksForSame, GoesWithKey}
use Rattle.sstable_streams.specs.Streams.{Place, Current, Stream, place, HasLeft, IsLeft, Takes}
use Rattle.sstable_streams.specs.Steps.{next_of, current_of, StepsTo}

abbrev pub beside_of : Edge → Beside
beside_of edge = record { bound = bound_key edge.bound; order = edge.order; matched = edge.comparator }

abbrev pub known_of : {A K S : Type 0} → (A → Machine S) → (K → Option Key) → Trail A K S → Known S
known_of machine tracked trail = record {
  machine = machine trail.automaton;
  lower = beside_of trail.lower;
  upper = beside_of trail.upper;
  states = trail.states.items;
  kept = tracked trail.key;
}

-- Before the first key: what is known of the empty one, by what was asked for.
pub record BeginsTrail {A K S : Type 0} (machine : A → Machine S) (tracked : K → Option Key) (automaton : A) (lower upper : Bound Key) (trail : Trail A K S) : Type 0 where
  pub asked_machine : (known_of machine tracked trail).machine ≡ machine automaton
  pub asked_lower : (known_of machine tracked trail).lower.bound ≡ lower
  pub asked_upper : (known_of machine tracked trail).upper.bound ≡ upper
  pub knows_none : Knows (known_of machine tracked trail) []

-- it goes with the next key, which keeps so much of the last one and adds a suffix
abbrev pub GoesWith : {A K S : Type 0} → (A → Machine S) → (K → Option Key) → Trail A K S → Trail A K S → ℕ → List ℕ → Type 0
GoesWith machine tracked old new keep suffix = GoesWithKey (known_of machine tracked old) (known_of machine tracked new) keep suffix

-- it asks for the same keys
abbrev pub AsksForSame : {A K S : Type 0} → (A → Machine S) → (K → Option Key) → Trail A K S → Trail A K S → Type 0
AsksForSame machine tracked old new = LooksForSame (known_of machine tracked old) (known_of machine tracked new)

-- the answer that is given for good
abbrev pub final_of : Standing → Option (Result Bool BlockError)
final_of Between = None
final_of AtEntry = None
final_of Ended = Some (Ok false)
final_of (Failed error) = Some (Err error)

-- the entry, where it is the current one
abbrev pub if_current : {V : Type 0} → Standing → Option (Current V) → Option (Current V)
if_current Between entry = None
if_current AtEntry entry = entry
if_current Ended entry = None
if_current (Failed error) entry = None

-- what a stream shows
abbrev pub stream_of : {A K S V : Type 0} → (K → Option Key) → Cursor (Sliced V) A K S → Standing → Stream V A S
stream_of tracked cursor standing = record {
  current = if_current standing (current_of cursor.ord (tracked cursor.trail.key) cursor.delta_reader.walk.current);
  final = final_of standing;
  automaton = cursor.trail.automaton;
  lower = beside_of cursor.trail.lower;
  upper = beside_of cursor.trail.upper;
  states = cursor.trail.states.items;
  kept = tracked cursor.trail.key;
  reader = cursor.delta_reader;
  next = next_of cursor.next;
}

abbrev pub place_of : {A K S V : Type 0} → Codec V → (A → Machine S) → (K → Option Key) → Cursor (Sliced V) A K S → Place V S
place_of codec machine tracked cursor = place codec machine (stream_of tracked cursor Between)

-- the entry that a reader is at, with its position and its key, where that is kept
abbrev pub entry_of : {A K S V : Type 0} → (K → Option Key) → Cursor (Sliced V) A K S → Option (Current V)
entry_of tracked cursor = current_of cursor.ord (tracked cursor.trail.key) cursor.delta_reader.walk.current

-- whatever entries were left, a step went to the first of them
abbrev pub StepsOver : {A K S V : Type 0} → Codec V → (A → Machine S) → (K → Option Key) → Cursor (Sliced V) A K S → Cursor (Sliced V) A K S → Result Bool BlockError → Type 0
StepsOver {V = V} codec machine tracked old new result =
    (last : Option Key) (entries : List (Placed V)) → HasLeft (place_of codec machine tracked old) last entries
    → StepsTo entries (entry_of tracked new) (place_of codec machine tracked new) result

-- whatever entries were looked for, a call went to the first of them
abbrev pub SeeksOver : {A K S V : Type 0} → Codec V → (A → Machine S) → (K → Option Key) → Cursor (Sliced V) A K S → Cursor (Sliced V) A K S → Result Bool BlockError → Type 0
SeeksOver {V = V} codec machine tracked old new result =
    (rest : List (Placed V)) → IsLeft (place_of codec machine tracked old) rest
    → Takes (IsLeft (place_of codec machine tracked new)) (entry_of tracked new) rest result
