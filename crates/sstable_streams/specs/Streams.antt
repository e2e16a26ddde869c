-- What a stream over the entries of blocks shows, and what it has left.
use Rattle.std.specs.Prelude.{◌≡◌, ◌<◌, ℕ, Vec, List, [], ◌∷◌, map, filter, unwrap_or, Bool, true, false, Option, Some, None, Result, Ok, Err, IsSome, IsTrue, IfOk, MatchOption}
use Rattle.std.specs.Borrow.{Bor}
use Rattle.std.specs.declared.ops.Bound.{Bound}
use Rattle.owned_bytes.specs.Keys.{Key}
unfoldable use Rattle.owned_bytes.specs.Keys.{is_rising}
use Rattle.common_wire.specs.Tracking.{Tracks}
use Rattle.fst_map.specs.Automaton.{Machine}
use Rattle.sstable_values.specs.declared.errors.BlockError.{BlockError}
use Rattle.sstable_values.specs.declared.errors.BlockError.TheVariants.{Memory}
use Rattle.sstable_values.specs.Codec.{Codec}
use Rattle.sstable_blocks.specs.Placed.{Placed}
use Rattle.sstable_blocks.specs.declared.block_reader.BlockSlice.{BlockSlice}
use Rattle.sstable_blocks.specs.Slices.{Sliced, entries_over, bytes_left}
unfoldable use Rattle.sstable_blocks.specs.Slices.{placed_in}
use Rattle.sstable_streams.specs.Bounds.{bound_key}
use Rattle.sstable_streams.specs.Held.{KeepsHeld}
use Rattle.sstable_streams.specs.Knowing.{Beside, Known, Knows, is_chosen}

abbrev pub key_of : {V : Type 0} → Placed V → Key
key_of placed = placed.1.0

-- of these entries, those within both bounds whose keys the machine takes
unfoldable pub chosen : {S V : Type 0} → Bound Key → Bound Key → Machine S → List (Placed V) → List (Placed V)
chosen lower upper machine entries = filter (λ entry. is_chosen lower upper machine (key_of entry)) entries

-- those that are looked for
abbrev pub wanted : {S V : Type 0} → Known S → List (Placed V) → List (Placed V)
wanted known entries = chosen known.lower.bound known.upper.bound known.machine entries

-- the keys rise, behind the last one, where there is one
abbrev pub rises_behind : Option Key → List Key → Bool
rises_behind None keys = is_rising keys
rises_behind (Some last) keys = is_rising (last ∷ keys)

-- Where a stream stands: what it knows of the last key, its reader, and the position of the next entry, unless that begins
-- a slice.
pub record Place (V S : Type 0) : Type 0 where
  pub codec : Codec V
  pub known : Known S
  pub reader : Sliced V
  pub next : ℕ

-- The last key was this one, where there was one. The reader has these entries left, and their keys rise from there on.
pub record HasLeft {V S : Type 0} (place : Place V S) (last : Option Key) (entries : List (Placed V)) : Type 0 where
  pub knows : Knows place.known (unwrap_or last [])
  pub left : entries_over place.codec last place.next place.reader ≡ Some entries
  pub rising : rises_behind last (map key_of entries) ≡ true

-- of the entries that the reader has left, these are looked for
pub record IsLeft {V S : Type 0} (place : Place V S) (rest : List (Placed V)) : Type 0 where
  pub last : Option Key
  pub entries : List (Placed V)
  pub has : HasLeft place last entries
  pub are : rest ≡ wanted place.known entries

-- What is shown of an entry: its position, its key where keys are kept, and its value.
pub record Current (V : Type 0) : Type 0 where
  pub ord : ℕ
  pub key : Option Key
  pub value : V

-- What a stream shows, whose automaton is an A with states in S.
pub record Stream (V A S : Type 0) : Type 0 where
  -- the current entry, where there is one
  pub current : Option (Current V)
  -- the answer that each later call gives, where the stream came to its end or an error
  pub final : Option (Result Bool BlockError)
  -- where it stands: what it knows of the last key, its reader, and the position of the next entry
  pub automaton : A
  pub lower : Beside
  pub upper : Beside
  pub states : List S
  pub kept : Option Key
  pub reader : Sliced V
  pub next : ℕ

-- where it stands, by what its values and its automaton mean
abbrev pub place : {V A S : Type 0} → Codec V → (A → Machine S) → Stream V A S → Place V S
place codec machine stream = record {
  codec = codec;
  known = record {
    machine = machine stream.automaton;
    lower = stream.lower;
    upper = stream.upper;
    states = stream.states;
    kept = stream.kept;
  };
  reader = stream.reader;
  next = stream.next;
}

-- at the end nothing is left, and after an error nothing is said
abbrev pub IsLeftUnlessFinal : {V S : Type 0} → Option (Result Bool BlockError) → Place V S → List (Placed V) → Type 0
IsLeftUnlessFinal None place rest = IsLeft place rest
IsLeftUnlessFinal (Some (Ok more)) place rest = rest ≡ []
IsLeftUnlessFinal (Some (Err e)) place rest = ⊥

-- these entries are still to come
abbrev pub HasRest : {V A S : Type 0} → Codec V → (A → Machine S) → Stream V A S → List (Placed V) → Type 0
HasRest codec machine stream rest = IsLeftUnlessFinal stream.final (place codec machine stream) rest

-- the entry is shown, with this key where keys are kept
abbrev pub shown_entry : {V : Type 0} → Option Key → Placed V → Current V
shown_entry kept entry = record { ord = entry.0; key = kept; value = entry.1.1 }

-- The first of these entries is the current one, and the others are left.
pub record IsTaken {V : Type 0} (are_left : List (Placed V) → Type 0) (now : Option (Current V)) (entries : List (Placed V)) : Type 0 where
  pub entry : Placed V
  pub others : List (Placed V)
  pub kept : Option Key
  pub first : entries ≡ entry ∷ others
  pub current : now ≡ Some (shown_entry kept entry)
  pub tracked : Tracks kept (key_of entry)
  pub left : are_left others

-- What a call did that goes to the first of these entries. It answers false exactly where there is none, and fails only
-- for want of memory.
abbrev pub Takes : {V : Type 0} → (List (Placed V) → Type 0) → Option (Current V) → List (Placed V) → Result Bool BlockError → Type 0
Takes are_left now entries (Ok true) = IsTaken are_left now entries
Takes are_left now entries (Ok false) = entries ≡ []
Takes are_left now entries (Err e) = e ≡ Memory

-- whatever entries were to come, a call took the first of them, or answered that there is none
abbrev pub TakesFirst : {V A S : Type 0} → Codec V → (A → Machine S) → Stream V A S → Stream V A S → Result Bool BlockError → Type 0
TakesFirst {V} codec machine old new result =
    (rest : List (Placed V)) → HasRest codec machine old rest → Takes (HasRest codec machine new) new.current rest result

-- There is a current entry after true alone. The end and an error stay.
abbrev pub Stays : {V A S : Type 0} → Stream V A S → Result Bool BlockError → Type 0
Stays new (Ok true) = (IsSome new.current) × (new.final ≡ None)
Stays new (Ok false) = (new.current ≡ None) × (new.final ≡ Some (Ok false))
Stays new (Err e) = (new.current ≡ None) × (new.final ≡ Some (Err e))

-- where an answer stays, each later call gives it and changes nothing
abbrev pub AnswersFinal : {V A S : Type 0} → Stream V A S → Stream V A S → Result Bool BlockError → Type 0
AnswersFinal old new result = MatchOption old.final (Unit {0}) (λ answer. (result ≡ answer) × (new ≡ old))

-- Of this reader's entries, whose positions begin with that one unless the reader's slice tells it, a stream has those
-- within the bounds that its automaton takes.
abbrev pub StreamsOver : {V A S G : Type 0} → Codec V → (A → Machine S) → Sliced V → ℕ → A → Bound (Vec ℕ G) → Bound (Vec ℕ G) → Stream V A S → Type 0
StreamsOver {V} codec machine reader first automaton lower upper stream =
    (entries : List (Placed V)) → entries_over codec None first reader ≡ Some entries → is_rising (map key_of entries) ≡ true
    → HasRest codec machine stream (chosen (bound_key lower) (bound_key upper) (machine automaton) entries)

-- the same of the entries of slices, whose keys rise also from one slice to the next
abbrev pub StreamsSlices : {V A S G : Type 0} → Codec V → (A → Machine S) → List BlockSlice → A → Bound (Vec ℕ G) → Bound (Vec ℕ G) → Stream V A S → Type 0
StreamsSlices {V} codec machine slices automaton lower upper stream =
    (entries : List (Placed V)) → placed_in codec slices ≡ Some entries → is_rising (map key_of entries) ≡ true
    → HasRest codec machine stream (chosen (bound_key lower) (bound_key upper) (machine automaton) entries)

-- it gave no entry yet
abbrev pub IsBefore : {V A S : Type 0} → Stream V A S → Type 0
IsBefore stream = (stream.current ≡ None) × (stream.final ≡ None)

-- fewer bytes are left after each entry
abbrev pub LeavesFewer : {V : Type 0} → Sliced V → Sliced V → Result Bool BlockError → Type 0
LeavesFewer old new result = IfOk result (λ more. IsTrue more → bytes_left new < bytes_left old)

-- As long as no answer stays: an error tells the place of a compressed block that the reader held, and after an entry it
-- holds no other ones.
abbrev pub TellsCompressed : {V A S : Type 0} → Stream V A S → Stream V A S → Result Bool BlockError → Type 0
TellsCompressed old new result = old.final ≡ None → KeepsHeld old.reader new.reader result

-- the key and the value are those of the first of these entries
abbrev pub AreFirst : {V W : Type 0} → (W → V) → List (Placed V) → Bor (List ℕ) × Bor W → Type 0
AreFirst shown [] found = ⊥
AreFirst shown (entry ∷ others) found = (found.0.now ≡ key_of entry) × (shown found.1.now ≡ entry.1.1)

-- what a call gave that goes to the first of these entries
abbrev pub Gives : {V W : Type 0} → (W → V) → List (Placed V) → Result (Option (Bor (List ℕ) × Bor W)) BlockError → Type 0
Gives shown entries (Ok (Some found)) = AreFirst shown entries found
Gives shown entries (Ok None) = entries ≡ []
Gives shown entries (Err e) = e ≡ Memory

-- whatever entries were to come, a call gave the first of them
abbrev pub GivesFirst : {V W A S : Type 0} → Codec V → (A → Machine S) → (W → V) → Stream V A S → Result (Option (Bor (List ℕ) × Bor W)) BlockError → Type 0
GivesFirst {V} codec machine shown old result = (rest : List (Placed V)) → HasRest codec machine old rest → Gives shown rest result

-- the value is that of the first of these entries
abbrev pub IsValueOfFirst : {V W : Type 0} → (W → V) → List (Placed V) → Bor W → Type 0
IsValueOfFirst shown [] found = ⊥
IsValueOfFirst shown (entry ∷ others) found = shown found.now ≡ entry.1.1

-- the same where no key is given
abbrev pub GivesOnlyValue : {V W : Type 0} → (W → V) → List (Placed V) → Result (Option (Bor W)) BlockError → Type 0
GivesOnlyValue shown entries (Ok (Some found)) = IsValueOfFirst shown entries found
GivesOnlyValue shown entries (Ok None) = entries ≡ []
GivesOnlyValue shown entries (Err e) = e ≡ Memory

abbrev pub GivesFirstValue : {V W A S : Type 0} → Codec V → (A → Machine S) → (W → V) → Stream V A S → Result (Option (Bor W)) BlockError → Type 0
GivesFirstValue {V} codec machine shown old result = (rest : List (Placed V)) → HasRest codec machine old rest → GivesOnlyValue shown rest result
