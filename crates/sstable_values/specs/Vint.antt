-- Numbers in groups of seven bits, the lowest group first. Each byte but the last has bit 128 set.
use Rattle.std.specs.Prelude.{◌≡◌, ℕ, zero, suc, ◌+◌, ◌-◌, ◌*◌, ◌/◌, ◌%◌, ◌^◌, ◌<◌, ◌≤◌, List, [], ◌∷◌, ◌++◌, length, Some, None, nat_lt, if◌then◌else◌}
use Rattle.owned_bytes.specs.Front.{Reading}
use Rattle.owned_bytes.specs.Reader.{◌>>=◌, give, only_if}

-- The bytes spell the number, in the shortest form or a longer one.
abbrev pub SpellsVint : List ℕ → ℕ → Type 0
SpellsVint [] n = ⊥
SpellsVint (b ∷ []) n = (b < 128) × (n ≡ b)
SpellsVint (b ∷ c ∷ bytes) n = (128 ≤ b) × (b < 256) × (high : ℕ) × (n + 128 ≡ b + 128 * high) × SpellsVint (c ∷ bytes) high

-- no front of at most ten bytes spells a number that fits 64 bits
abbrev pub SpellNone : List ℕ → Type 0
SpellNone bytes = (front rest : List ℕ) (n : ℕ) → bytes ≡ front ++ rest → length front ≤ 10 → n < 2 ^ 64 → SpellsVint front n → ⊥

-- a number of at most so many bytes
unfoldable pub groups_at : ℕ → Reading ℕ
groups_at zero bytes = None
groups_at (suc k) [] = None
groups_at (suc k) (b ∷ bytes) =
    if nat_lt b 128 then Some (b, bytes) else (groups_at k >>= (λ high. give (b - 128 + 128 * high))) bytes

-- a number of at most ten bytes that fits 64 bits
unfoldable pub vint_at : Reading ℕ
vint_at = do
  n ← groups_at 10
  only_if (nat_lt n (2 ^ 64)) (give n)

-- the shortest form, where it has at most so many bytes
unfoldable pub groups : ℕ → ℕ → List ℕ
groups zero n = []
groups (suc k) n = if nat_lt n 128 then n ∷ [] else (128 + n % 128) ∷ groups k (n / 128)

-- the shortest form of a number that fits 64 bits
unfoldable pub vint : ℕ → List ℕ
vint n = groups 10 n
