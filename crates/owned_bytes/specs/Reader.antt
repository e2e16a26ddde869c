-- Readings one after the other: each takes its value from the front of what the one before left.
use Rattle.std.specs.Prelude.{Bool, Some}
use Rattle.owned_bytes.specs.Front.{Reading}
use Rattle.owned_bytes.specs.Front as front

infixl 10 ◌>>=◌
-- a reading, and then one that knows its value
abbrev pub ◌>>=◌ : {A B : Type 0} → Reading A → (A → Reading B) → Reading B
(reading >>= next) bytes = front.◌>>=◌ (reading bytes) (λ found. next found.0 found.1)

-- takes no byte
abbrev pub give : {A : Type 0} → A → Reading A
give x bytes = Some (x, bytes)

-- goes on only where the test holds
abbrev pub only_if : {A : Type 0} → Bool → Reading A → Reading A
only_if test next bytes = front.◌>>=◌ (front.provided test) (λ _. next bytes)
