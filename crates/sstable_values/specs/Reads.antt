-- What a call that reads the front of some bytes answered.
use Rattle.std.specs.Prelude.{◌≡◌, ℕ, ◌≤◌, List, ◌++◌, length, drop, Some, None, Result, Ok, Err}
use Rattle.owned_bytes.specs.Front.{Reading}
use Rattle.sstable_values.specs.declared.errors.BlockError.{BlockError}
use Rattle.sstable_values.specs.declared.errors.BlockError.TheVariants as errors

-- Corrupt comes only where this holds, and Compressed never
abbrev pub CorruptOnly : BlockError → Type 0 → Type 0
CorruptOnly errors.Memory P = Unit {0}
CorruptOnly errors.Corrupt P = P
CorruptOnly (errors.Compressed place) P = ⊥

-- the bytes are read as the value, whatever follows them
abbrev pub ReadsAgain : {A : Type 0} → Reading A → List ℕ → A → Type 0
ReadsAgain reading bytes value = (rest : List ℕ) → reading (bytes ++ rest) ≡ Some (value, rest)

-- With Ok so many bytes are the value, at the front; with Corrupt no value stands there.
abbrev pub Took : {A : Type 0} → Result ℕ BlockError → Reading A → List ℕ → A → Type 0
Took (Ok n) reading bytes value = (n ≤ length bytes) × (reading bytes ≡ Some (value, drop n bytes))
Took (Err e) reading bytes value = CorruptOnly e (reading bytes ≡ None)
