-- Numbers of documents that rise.
use Rattle.std.specs.Prelude.{◌≡◌, ℕ, ◌-◌, ◌≤◌, List, length, take, drop, ⊤, Result, Ok, Err}
use Rattle.index_reading.specs.Opened.{AreNumbers}
use Rattle.index_reading.specs.declared.errors.IndexError.{IndexError}
use Rattle.index_reading.specs.declared.errors.IndexError.TheVariants.{Memory, Read, Corrupt}

-- what is answered of these numbers, where they shall be rising numbers of so many documents
abbrev pub GivesNumbers : ℕ → List ℕ → Result (List ℕ) IndexError → Type 0
GivesNumbers documents numbers (Ok given) = (given ≡ numbers) × AreNumbers documents given
GivesNumbers documents numbers (Err Memory) = ⊤
GivesNumbers documents numbers (Err Corrupt) = ¬ AreNumbers documents numbers
GivesNumbers documents numbers (Err _) = ⊥

-- the same of the numbers from one place to another, which shall be places of the list
abbrev pub GivesPart : ℕ → List ℕ → ℕ → ℕ → Result (List ℕ) IndexError → Type 0
GivesPart documents numbers start end (Ok given) = (given ≡ take (end - start) (drop start numbers)) × AreNumbers documents given
GivesPart documents numbers start end (Err Memory) = ⊤
GivesPart documents numbers start end (Err Read) = ⊤
GivesPart documents numbers start end (Err Corrupt) =
    start ≤ end → end ≤ length numbers → ¬ AreNumbers documents (take (end - start) (drop start numbers))
GivesPart documents numbers start end (Err _) = ⊥
