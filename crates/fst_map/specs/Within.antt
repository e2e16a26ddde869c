-- The keys between two others, and whether a machine may take one of them.
use Rattle.std.specs.Prelude.{◌≡◌, ℕ, ◌+◌, ◌-◌, [], ◌∷◌, Bool, true, false, ◌&&◌, ◌||◌, ◌==◌, not, nat_lt, IsTrue, Option, Some, None, if◌then◌else◌}
use Rattle.std.specs.List.{list_any, range_with_len}
use Rattle.owned_bytes.specs.Keys.{Key, is_below}
use Rattle.fst_map.specs.Automaton.{Machine, AreBytes, IsTight, takes}
use Rattle.fst_map.specs.Map.{may_follow}

-- the key is above the lower one, where there is one, and not above the upper one
abbrev pub is_within : Option Key → Key → Key → Bool
is_within lower upper key = may_follow lower key && not (is_below upper key)

-- the machine takes some key there
abbrev pub TakesWithin : {S : Type 0} → Machine S → Option Key → Key → Type 0
TakesWithin machine lower upper =
    (key : Key) × AreBytes key × (is_within lower upper key ≡ true) × (takes machine key ≡ true)

-- the answer is yes where the machine takes a key there
abbrev pub MissesNone : {S : Type 0} → Machine S → Option Key → Key → Bool → Type 0
MissesNone machine lower upper answer = TakesWithin machine lower upper → IsTrue answer

-- of a tight machine the answer is yes only where it takes a key there
abbrev pub NeedsEach : {S : Type 0} → Machine S → Option Key → Key → Bool → Type 0
NeedsEach machine lower upper answer = IsTight machine → IsTrue answer → TakesWithin machine lower upper

-- What follows is the test, byte by byte, for callers that need it as a function: of a machine that isn't tight the two
-- facts above leave the answer open.

-- a byte from the first on and before the end leads from the state to one that can match
unfoldable pub leads_on : {S : Type 0} → Machine S → S → ℕ → ℕ → Bool
leads_on machine state first end =
    list_any (λ byte. machine.can_match (machine.accept state byte)) (range_with_len first (end - first))

-- From a state that can match, the machine may go on to a key that is not above the upper one: it matches at once, or
-- after a lower byte, or goes on after the same byte.
unfoldable pub may_take_up_to : {S : Type 0} → Machine S → S → Key → Bool
may_take_up_to machine state [] = machine.is_match state
may_take_up_to machine state (byte ∷ upper) =
    machine.can_match state
    && (machine.is_match state || leads_on machine state 0 byte || may_take_up_to machine (machine.accept state byte) upper)

-- From a state that can match, the machine may go on to a key that is above the lower one: by a higher byte, or after
-- the same byte.
unfoldable pub may_take_above : {S : Type 0} → Machine S → S → Key → Bool
may_take_above machine state [] = machine.can_match state && leads_on machine state 0 256
may_take_above machine state (byte ∷ lower) =
    machine.can_match state
    && (leads_on machine state (byte + 1) 256 || may_take_above machine (machine.accept state byte) lower)

-- From a state that can match, the machine may go on to a key between two that have no first byte in common: by a byte
-- between their first bytes, or after the lower one's, or after the upper one's.
unfoldable pub may_take_apart : {S : Type 0} → Machine S → S → Key → Key → Bool
may_take_apart machine state lower [] = false
may_take_apart machine state [] (end ∷ upper) =
    machine.can_match state && (leads_on machine state 0 end || may_take_up_to machine (machine.accept state end) upper)
may_take_apart machine state (first ∷ lower) (end ∷ upper) =
    machine.can_match state && (nat_lt first end
    && (leads_on machine state (first + 1) end
    || may_take_above machine (machine.accept state first) lower
    || may_take_up_to machine (machine.accept state end) upper))

-- the machine may go on to a key between two, after the bytes that they have in common
unfoldable pub may_take_between : {S : Type 0} → Machine S → S → Key → Key → Bool
may_take_between machine state [] upper = may_take_apart machine state [] upper
may_take_between machine state (first ∷ lower) [] = false
may_take_between machine state (first ∷ lower) (end ∷ upper) =
    if first == end then may_take_between machine (machine.accept state first) lower upper
    else may_take_apart machine state (first ∷ lower) (end ∷ upper)

-- the machine may take a key above the lower one, where there is one, and not above the upper one
abbrev pub may_take_within : {S : Type 0} → Machine S → Option Key → Key → Bool
may_take_within machine None upper = may_take_up_to machine machine.start upper
may_take_within machine (Some lower) upper = may_take_between machine machine.start lower upper

-- A line 'unfolding within_computes' lets the definitions of this file compute.
unfoldable pub within_computes : Unit {0}
unfolding leads_on may_take_up_to may_take_above may_take_apart may_take_between
within_computes = tt
