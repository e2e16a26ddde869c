-- The states of a machine along a key.
use Rattle.std.specs.Prelude.{◌≡◌, ℕ, List, [], ◌∷◌, ◌++◌, take}
use Rattle.owned_bytes.specs.Keys.{Key}
use Rattle.fst_map.specs.Automaton.{Machine, after}

-- the state after each front of the bytes, the empty one first
abbrev pub states_along : {S : Type 0} → Machine S → S → List ℕ → List S
states_along machine state [] = state ∷ []
states_along machine state (byte ∷ bytes) = state ∷ states_along machine (machine.accept state byte) bytes

-- from the state before the first byte
abbrev pub states_of : {S : Type 0} → Machine S → Key → List S
states_of machine key = states_along machine machine.start key

-- where the states are those of a key, this is the one after the whole key
abbrev pub IsLastState : {S : Type 0} → Machine S → List S → S → Type 0
IsLastState machine states state = (key : Key) → states ≡ states_of machine key → state ≡ after machine machine.start key

-- the states of a key became those of its first bytes, as many as are kept, and a suffix
abbrev pub FollowsStates : {S : Type 0} → Machine S → List S → List S → ℕ → List ℕ → Type 0
FollowsStates machine old new keep suffix = (key : Key) → old ≡ states_of machine key → new ≡ states_of machine (take keep key ++ suffix)
