-- What the calls of serialization do to a sink and a source.
use Rattle.std.specs.Prelude.{◌≡◌, ℕ, zero, suc, ◌*◌, ◌≤◌, List, [], ◌++◌, length, ⊤, None, Some, Option, Result, Err, MatchResult}
use Rattle.std.specs.List.{flat_map}
use Rattle.owned_bytes.specs.Outside.{WritesAll}
use Rattle.common_wire.specs.Taking.{Taken, Value, Cut, Wrong, Taking}
use Rattle.common_wire.specs.declared.error.WireError.{WireError}
use Rattle.common_wire.specs.declared.error.WireError.TheVariants.{Memory, Ended, Invalid, Failed}

-- The laws of a taking: the value is spelled by a front of the bytes, and what follows that front changes nothing; and
-- where no value begins with the bytes, none begins with them and more.
pub record IsTaking {A : Type 0} (taking : Taking A) : Type 0 where
  pub front : (bytes rest : List ℕ) (x : A) → taking bytes ≡ Value x rest → (spelling : List ℕ) × (bytes ≡ spelling ++ rest) × (taking spelling ≡ Value x [])
  pub longer : (bytes rest more : List ℕ) (x : A) → taking bytes ≡ Value x rest → taking (bytes ++ more) ≡ Value x (rest ++ more)
  pub wrong : (bytes more : List ℕ) → taking bytes ≡ Wrong → taking (bytes ++ more) ≡ Wrong

-- Ended comes only where the bytes end before the value does, and Invalid only where no value begins with them.
abbrev pub IsCause : {A : Type 0} → WireError → Taken A → Type 0
IsCause Ended taken = taken ≡ Cut
IsCause Invalid taken = taken ≡ Wrong
IsCause Memory taken = ⊤
IsCause Failed taken = ⊤

-- After an error a front of the bytes was taken, and none after the value's.
pub record StopsAt {A : Type 0} (taken : Taken A) (bytes left : List ℕ) (e : WireError) : Type 0 where
  pub cause : IsCause e taken
  pub gone : (front : List ℕ) × (bytes ≡ front ++ left)
  pub within : (x : A) (rest : List ℕ) → taken ≡ Value x rest → length rest ≤ length left

-- At Ok the value at the front of the told bytes was taken, which contracts see as `shown` gives it.
abbrev pub Takes : {T A : Type 0} → (T → A) → Taking A → Option (List ℕ) → Option (List ℕ) → Result T WireError → Type 0
Takes shown taking None now r = ⊤
Takes shown taking (Some bytes) None r = ⊥
Takes shown taking (Some bytes) (Some left) r = MatchResult r (λ x. taking bytes ≡ Value (shown x) left) (λ e. StopsAt (taking bytes) bytes left e)

-- The source itself failed.
abbrev pub SourceFailed : {T : Type 0} → Result T WireError → Type 0
SourceFailed result = result ≡ Err Failed

-- What was written is read again, whatever follows.
abbrev pub IsReadAgain : {A : Type 0} → Taking A → (A → List ℕ) → (A → A) → A → Type 0
IsReadAgain taking wire as_written v = (rest : List ℕ) → taking (wire (as_written v) ++ rest) ≡ Value (as_written v) rest

-- No spelling of a value begins another spelling.
abbrev pub BeginsNoOther : {A : Type 0} → Taking A → Type 0
BeginsNoOther {A} taking = (bytes more : List ℕ) (v w : A) → taking bytes ≡ Value v [] → taking (bytes ++ more) ≡ Value w [] → (v ≡ w) × (more ≡ [])

-- `write_all` of the bytes of each value, one after the other
abbrev pub WritesEach : {T E X A : Type 0} → Option (List ℕ) → Option (List ℕ) → Result T E → (A → List ℕ) → (A → A) → (X → A) → List X → Type 0
WritesEach old new result wire as_written shown xs = WritesAll old new result (flat_map (λ x. wire (as_written (shown x))) xs)

-- numbers below it have at most so many groups of seven bits
abbrev pub limit : ℕ → ℕ
limit zero = 1
limit (suc k) = 128 * limit k
