-- Machines that read a byte string byte by byte, and the byte strings that they take.
use Rattle.std.specs.Prelude.{◌≡◌, ℕ, ◌+◌, ◌==◌, ◌<◌, Bool, true, false, ◌||◌, List, [], ◌∷◌, ◌++◌, length, slice_index, nat_eq, nat_lt, nat_le, All, Option, Some, None, is_some, if◌then◌else◌}
use Rattle.std.specs.List.{starts_with}
use Rattle.owned_bytes.specs.Keys.{Key, is_same}

-- A machine: the state that it begins in, the states that are matches, those from which a match can be reached, those
-- from which each state is a match, and the state after one more byte.
pub record Machine (S : Type 0) : Type 0 where
  pub start : S
  pub is_match : S → Bool
  pub can_match : S → Bool
  pub will_always_match : S → Bool
  pub accept : S → ℕ → S

-- the state after these bytes
abbrev pub after : {S : Type 0} → Machine S → S → List ℕ → S
after machine state [] = state
after machine state (byte ∷ bytes) = after machine (machine.accept state byte) bytes

-- the machine takes the key
abbrev pub takes : {S : Type 0} → Machine S → Key → Bool
takes machine key = machine.is_match (after machine machine.start key)

abbrev pub AreBytes : List ℕ → Type 0
AreBytes bytes = All (λ byte. byte < 256) bytes

-- Where it has come to and says that it can't match, it takes no key that goes on from there. Where it says that it
-- always will, it takes each.
abbrev pub IsLawful : {S : Type 0} → Machine S → Type 0
IsLawful machine = (front back : List ℕ) → AreBytes front → AreBytes back →
    (machine.can_match (after machine machine.start front) ≡ false → takes machine (front ++ back) ≡ false)
    × (machine.will_always_match (after machine machine.start front) ≡ true → takes machine (front ++ back) ≡ true)

-- it doesn't take every key at once
abbrev pub IsPruning : {S : Type 0} → Machine S → Type 0
IsPruning machine = machine.will_always_match machine.start ≡ false

-- It is lawful, and where it has come to and says that it can match, it takes some key that goes on from there.
abbrev pub IsTight : {S : Type 0} → Machine S → Type 0
IsTight machine = IsLawful machine × ((front : List ℕ) → AreBytes front →
    machine.can_match (after machine machine.start front) ≡ true →
    (back : List ℕ) × AreBytes back × (takes machine (front ++ back) ≡ true))

-- the machine takes exactly the keys that pass the test
abbrev pub Takes : {S : Type 0} → Machine S → (Key → Bool) → Type 0
Takes machine test = (key : Key) → AreBytes key → takes machine key ≡ test key

-- The languages of the four machines: all keys, one key, the keys that begin with a prefix, those of one or the other.
abbrev pub every_key : Key → Bool
every_key key = true

abbrev pub only : Key → Key → Bool
only one key = is_same one key

abbrev pub beginning_with : List ℕ → Key → Bool
beginning_with prefix key = starts_with nat_eq key prefix

abbrev pub either : (Key → Bool) → (Key → Bool) → Key → Bool
either one other key = one key || other key

-- the third machine takes what one of two machines takes, whatever they take
abbrev pub TakesEither : {S T U : Type 0} → Machine S → Machine T → Machine U → Type 0
TakesEither left right joined = (one other : Key → Bool) → Takes left one → Takes right other → Takes joined (either one other)

-- the third machine is tight where both are
abbrev pub IsTightWithBoth : {S T U : Type 0} → Machine S → Machine T → Machine U → Type 0
IsTightWithBoth left right joined = IsTight left → IsTight right → IsTight joined

-- the machine that takes every key
abbrev pub always : Machine (Unit {0})
always = record {
  start = tt;
  is_match = λ _. true;
  can_match = λ _. true;
  will_always_match = λ _. true;
  accept = λ _ _. tt;
}

-- A state of the next two machines is how many bytes of a text were read, or none where another byte came.
abbrev pub is_read : List ℕ → Option ℕ → Bool
is_read text None = false
is_read text (Some place) = nat_le (length text) place

-- the place after one more byte of the text
abbrev pub next_place : List ℕ → ℕ → ℕ → Option ℕ
next_place text place byte = if slice_index text place == byte then Some (place + 1) else None

-- after the whole text nothing more may come
abbrev pub exact_accept : List ℕ → Option ℕ → ℕ → Option ℕ
exact_accept text None byte = None
exact_accept text (Some place) byte = if nat_lt place (length text) then next_place text place byte else None

-- after the whole text anything may come
abbrev pub prefix_accept : List ℕ → Option ℕ → ℕ → Option ℕ
prefix_accept text None byte = None
prefix_accept text (Some place) byte = if nat_lt place (length text) then next_place text place byte else Some place

-- the machine that takes one key
abbrev pub exact : Key → Machine (Option ℕ)
exact key = record {
  start = Some 0;
  is_match = is_read key;
  can_match = λ state. is_some state;
  will_always_match = λ _. false;
  accept = exact_accept key;
}

-- the machine that takes the keys that begin with the prefix
abbrev pub prefixed : List ℕ → Machine (Option ℕ)
prefixed prefix = record {
  start = Some 0;
  is_match = is_read prefix;
  can_match = λ state. is_some state;
  will_always_match = is_read prefix;
  accept = prefix_accept prefix;
}

-- two machines side by side, one of which is to match
abbrev pub joint : {S T : Type 0} → Machine S → Machine T → Machine (S × T)
joint one other = record {
  start = (one.start, other.start);
  is_match = λ both. one.is_match both.0 || other.is_match both.1;
  can_match = λ both. one.can_match both.0 || other.can_match both.1;
  will_always_match = λ both. one.will_always_match both.0 || other.will_always_match both.1;
  accept = λ both byte. (one.accept both.0 byte, other.accept both.1 byte);
}
