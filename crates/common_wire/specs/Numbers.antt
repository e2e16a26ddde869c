-- Signed numbers as unsigned ones in the same order.
use Rattle.std.specs.Prelude.{ℕ, ℤ, ◌+◌, ◌-◌, ◌^◌, pos, negsuc, List, map, if◌then◌else◌, ◌==◌}

-- the number with 2 ^ 63 added, so that the least is 0
abbrev pub shifted_up : ℤ → ℕ
shifted_up (pos n) = 2 ^ 63 + n
shifted_up (negsuc n) = 2 ^ 63 - (n + 1)

-- each needle replaced
abbrev pub replaced : ℕ → ℕ → List ℕ → List ℕ
replaced needle replacement bytes = map (λ b. if b == needle then replacement else b) bytes
