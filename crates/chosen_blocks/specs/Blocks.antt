-- Going over the blocks that a machine may need.
use Rattle.std.specs.Prelude.{◌≡◌, ℕ, ◌+◌, ◌<◌, List, [], ◌∷◌, length, drop, slice_get, Bool, Option, Some, None, IfSome}
use Rattle.owned_bytes.specs.Keys.{Key}
use Rattle.fst_map.specs.Automaton.{Machine}
use Rattle.fst_map.specs.Within.{may_take_within}
use Rattle.chosen_blocks.specs.Chosen.{IndexOf, key_before}
unfoldable use Rattle.chosen_blocks.specs.Chosen.{chosen_from}

-- the blocks from a number on that may hold a key which the machine takes
abbrev pub rest_from : {S A : Type 0} → Machine S → IndexOf A → ℕ → List (ℕ × A)
rest_from machine index number = chosen_from (may_take_within machine) number (key_before None index number) (drop number index)

-- the answer is whether the block may hold one
abbrev pub TellsNeeded : {S A : Type 0} → Machine S → IndexOf A → ℕ → Bool → Type 0
TellsNeeded machine index number answer =
    IfSome (slice_get index number) (λ block. answer ≡ may_take_within machine (key_before None index number) block.0)

-- This block is the first of those from a number on, and those behind it are the others.
pub record IsFound {S A : Type 0} (machine : Machine S) (index : IndexOf A) (from number : ℕ) : Type 0 where
  pub within : number < length index
  pub first : IfSome (slice_get index number) (λ block. rest_from machine index from ≡ (number, block.1) ∷ rest_from machine index (number + 1))

-- the first such block, or none where there is none
abbrev pub FindsNext : {S A : Type 0} → Machine S → IndexOf A → ℕ → Option ℕ → Type 0
FindsNext machine index from (Some number) = IsFound machine index from number
FindsNext machine index from None = rest_from machine index from ≡ []
