-- Taking a value from the front of bytes.
use Rattle.std.specs.Prelude.{⊤, ℕ, zero, suc, List, [], ◌∷◌, length, take, drop, Bool, nat_le, if◌then◌else◌}

-- What stands at the front of bytes: a value, with the bytes after it; the bytes end before the value does; or no value
-- begins so.
pub data Taken (A : Type 0) : Type 0 where
  Value : A → List ℕ → Taken A
  Cut : Taken A
  Wrong : Taken A

abbrev pub Taking : Type 0 → Type 0
Taking A = List ℕ → Taken A

-- a value stands at the front
abbrev pub HasValue : {A : Type 0} → Taken A → Type 0
HasValue (Value x rest) = ⊤
HasValue Cut = ⊥
HasValue Wrong = ⊥

-- what is left to do with a value, where there is one
abbrev pub continued : {A B : Type 0} → Taken A → (A → Taking B) → Taken B
continued (Value x rest) next = next x rest
continued Cut next = Cut
continued Wrong next = Wrong

infixl 10 ◌>>=◌
-- a value, and then one that may depend on it
abbrev pub ◌>>=◌ : {A B : Type 0} → Taking A → (A → Taking B) → Taking B
(taking >>= next) bytes = continued (taking bytes) next

-- takes no byte
abbrev pub give : {A : Type 0} → A → Taking A
give x bytes = Value x bytes

-- no value begins so
abbrev pub refuse : {A : Type 0} → Taking A
refuse bytes = Wrong

-- goes on only where the test holds
abbrev pub only_if : {A : Type 0} → Bool → Taking A → Taking A
only_if test next = if test then next else refuse

-- the first byte
abbrev pub byte : Taking ℕ
byte [] = Cut
byte (b ∷ bytes) = Value b bytes

-- the first n bytes
abbrev pub bytes_of : ℕ → Taking (List ℕ)
bytes_of n bytes = if nat_le n (length bytes) then Value (take n bytes) (drop n bytes) else Cut

-- so many values, one after the other
unfoldable pub counted : {A : Type 0} → ℕ → Taking A → Taking (List A)
counted zero item = give []
counted (suc n) item = do
  first ← item
  others ← counted n item
  give (first ∷ others)
