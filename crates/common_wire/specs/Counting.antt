-- What contracts see of a writer that counts.
use Rattle.std.specs.Prelude.{◌≡◌, ℕ, ◌+◌, ◌-◌, ◌^◌, min, Result, MatchResult}
use Rattle.common_wire.specs.declared.counting.CountingWriter.{CountingWriter}

-- the sink that it writes to
abbrev pub inner_sink : {W : Type 0} → CountingWriter W → W
inner_sink writer = writer.underlying

-- the bytes of the calls that answered Ok, up to the greatest `u64`
abbrev pub bytes_counted : {W : Type 0} → CountingWriter W → ℕ
bytes_counted writer = writer.written_bytes

-- The n bytes of a call that answered Ok are counted, up to the greatest `u64`, and none of another one.
abbrev pub CountsBytes : {T E : Type 0} → ℕ → ℕ → Result T E → ℕ → Type 0
CountsBytes before now result n = MatchResult result (λ _. now ≡ min (before + n) (2 ^ 64 - 1)) (λ _. now ≡ before)
