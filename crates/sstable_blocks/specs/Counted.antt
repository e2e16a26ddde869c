-- What a sink that counts shows, by what is told of the sink that it writes to.
use Rattle.std.specs.Prelude.{◌≡◌, ℕ, ◌+◌, ◌-◌, ◌^◌, ◌<◌, ◌≤◌, min, List, Option, Result}
use Rattle.owned_bytes.specs.Outside.{WritesAll, HasCause}
use Rattle.common_wire.specs.declared.counting.CountingWriter.{CountingWriter}
use Rattle.common_wire.specs.Counting.{inner_sink, bytes_counted}

-- these bytes were written
abbrev pub WritesThrough : {W T E : Type 0} → (W → Option (List ℕ)) → CountingWriter W → CountingWriter W → Result T E → List ℕ → Type 0
WritesThrough written old new result bytes = WritesAll (written (inner_sink old)) (written (inner_sink new)) result bytes

-- the count of faults doesn't fall, and this failure comes only where it rose
abbrev pub CausedBelow : {W : Type 0} → (W → ℕ) → CountingWriter W → CountingWriter W → Type 0 → Type 0
CausedBelow faults old new failure = HasCause (faults (inner_sink old)) (faults (inner_sink new)) failure

-- so many bytes were counted
abbrev pub CountsMore : {W : Type 0} → CountingWriter W → CountingWriter W → ℕ → Type 0
CountsMore old new n = bytes_counted new ≡ min (bytes_counted old + n) (2 ^ 64 - 1)

-- a count of 64 bits stays one, and doesn't fall
abbrev pub CountsOn : {W : Type 0} → CountingWriter W → CountingWriter W → Type 0
CountsOn old new = bytes_counted old < 2 ^ 64 → (bytes_counted old ≤ bytes_counted new) × (bytes_counted new < 2 ^ 64)
