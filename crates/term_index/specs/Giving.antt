-- How an answer is written.
use Rattle.std.specs.Prelude.{◌≡◌, ◌≢◌, ◌⊎◌, ℕ, List, Option}
use Rattle.std.specs.Io.KnownBytes.{Appends, Keeps}
use Rattle.owned_bytes.specs.Outside.{AppendsPrefix}
use Rattle.term_index.specs.declared.outcome.Outcome.{Outcome}
use Rattle.term_index.specs.declared.outcome.Outcome.TheVariants.{Done, Memory}

-- an answer was appended
abbrev pub AppendsAnswer : (List ℕ → Type 0) → Option (List ℕ) → Option (List ℕ) → Type 0
AppendsAnswer IsAnswer old new = (answer : List ℕ) × IsAnswer answer × Appends old new answer

-- a part of an answer was appended, from its front
abbrev pub AppendsPart : (List ℕ → Type 0) → Option (List ℕ) → Option (List ℕ) → Type 0
AppendsPart IsAnswer old new = (answer : List ℕ) × IsAnswer answer × AppendsPrefix old new answer

-- An answer was appended where the command is done, a part of one at a fault of what it is written to, a part or nothing for
-- want of memory, and nothing after every other outcome.
pub record Gives (IsAnswer : List ℕ → Type 0) (fault outcome : Outcome) (old new : Option (List ℕ)) : Type 0 where
  pub done : outcome ≡ Done → AppendsAnswer IsAnswer old new
  pub failed : outcome ≡ fault → AppendsPart IsAnswer old new
  pub memory : outcome ≡ Memory → Keeps old new ⊎ AppendsPart IsAnswer old new
  pub nothing : outcome ≢ Done → outcome ≢ fault → outcome ≢ Memory → Keeps old new
