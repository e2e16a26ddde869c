-- A reader of contracts may skip this file: the laws of numbers in groups of seven bits.
use Rattle.std.proofs.Common.{◌≡◌, ℕ, zero, suc, ◌+◌, ◌-◌, ◌*◌, ◌/◌, ◌%◌, ◌^◌, ◌<◌, ◌≤◌, List, [], ◌∷◌, ◌++◌, Bool, true, false, refl, ap, ◌∙◌, arith}
use Rattle.std.specs.Prelude.{nat_lt, if◌then◌else◌}
use Rattle.std.proofs.lemmas.Bool.{lt-ltb, le-ltb, ltb-true, ltb-false}
use Rattle.common_wire.specs.Taking.{Value, Cut, Wrong, continued, ◌>>=◌, give, only_if, byte}
use Rattle.common_wire.specs.Wire.{groups, group_bytes, number_below, vint, vint_bytes, vint128, vint128_bytes}
use Rattle.common_wire.specs.Serialized.{IsTaking, limit}
use Rattle.common_wire.specs.TakingLaws.{IsTaking-give, IsTaking-refuse, IsTaking-byte, IsTaking-then, IsTaking-if, IsTaking-only_if}

pub group_bytes-last : (k n : ℕ) → n < 128 → group_bytes (suc k) n ≡ (n + 128) ∷ []
unfolding group_bytes
group_bytes-last k n h = ap (λ b. if b then (n + 128) ∷ [] else n % 128 ∷ group_bytes k (n / 128)) (lt-ltb n 128 h)

pub group_bytes-more : (k n : ℕ) → 128 ≤ n → group_bytes (suc k) n ≡ n % 128 ∷ group_bytes k (n / 128)
unfolding group_bytes
group_bytes-more k n h = ap (λ b. if b then (n + 128) ∷ [] else n % 128 ∷ group_bytes k (n / 128)) (le-ltb n 128 h)

pub groups-last : (k b : ℕ) (bytes : List ℕ) → 128 ≤ b → groups (suc k) (b ∷ bytes) ≡ Value (b - 128) bytes
unfolding groups
groups-last k b bytes h = ap (λ (t : Bool). (if t then (groups k >>= (λ high. give (b + 128 * high))) else give (b - 128)) bytes) (le-ltb b 128 h)

pub groups-more : (k b : ℕ) (bytes : List ℕ) → b < 128 → groups (suc k) (b ∷ bytes) ≡ continued (groups k bytes) (λ high. give (b + 128 * high))
unfolding groups
groups-more k b bytes h = ap (λ (t : Bool). (if t then (groups k >>= (λ high. give (b + 128 * high))) else give (b - 128)) bytes) (lt-ltb b 128 h)

pub groups-none : (bytes : List ℕ) → groups 0 bytes ≡ Wrong
unfolding groups
groups-none bytes = refl

pub groups-cut : (k : ℕ) → groups (suc k) [] ≡ Cut
unfolding groups
groups-cut k = refl

pub IsTaking-groups : (k : ℕ) → IsTaking (groups k)
unfolding groups
IsTaking-groups zero = IsTaking-refuse
IsTaking-groups (suc k) = IsTaking-then byte _ IsTaking-byte (λ b. IsTaking-if (nat_lt b 128) _ _ (IsTaking-then (groups k) _ (IsTaking-groups k) (λ high. IsTaking-give (b + 128 * high))) (IsTaking-give (b - 128)))

pub IsTaking-number_below : (k bound : ℕ) → IsTaking (number_below k bound)
unfolding number_below
IsTaking-number_below k bound = IsTaking-then (groups k) _ (IsTaking-groups k) (λ n. IsTaking-only_if (nat_lt n bound) (give n) (IsTaking-give n))

pub IsTaking-vint : IsTaking vint
unfolding vint
IsTaking-vint = IsTaking-number_below 10 (2 ^ 64)

pub IsTaking-vint128 : IsTaking vint128
unfolding vint128
IsTaking-vint128 = IsTaking-number_below 19 (2 ^ 128)

pub groups-again : (k n : ℕ) (rest : List ℕ) → n < limit (suc k) → groups (suc k) (group_bytes (suc k) n ++ rest) ≡ Value n rest
groups-again zero n rest h =
    let small : n < 128 = omega arith in
    ap (λ bytes. groups 1 (bytes ++ rest)) (group_bytes-last 0 n small) ∙ groups-last 0 (n + 128) rest (omega arith) ∙ ap (λ v. Value v rest) (omega arith)
groups-again (suc k) n rest h = by_size (nat_lt n 128) refl (λ small. groups-again k (n / 128) rest small)
  where
    by_size : (b : Bool) → nat_lt n 128 ≡ b → (n / 128 < limit (suc k) → groups (suc k) (group_bytes (suc k) (n / 128) ++ rest) ≡ Value (n / 128) rest) → groups (suc (suc k)) (group_bytes (suc (suc k)) n ++ rest) ≡ Value n rest
    by_size true e high =
        let small : n < 128 = ltb-true n 128 e in
        ap (λ bytes. groups (suc (suc k)) (bytes ++ rest)) (group_bytes-last (suc k) n small) ∙ groups-last (suc k) (n + 128) rest (omega arith) ∙ ap (λ v. Value v rest) (omega arith)
    by_size false e high =
        let large : 128 ≤ n = ltb-false n 128 e in
        ap (λ bytes. groups (suc (suc k)) (bytes ++ rest)) (group_bytes-more (suc k) n large)
        ∙ groups-more (suc k) (n % 128) (group_bytes (suc k) (n / 128) ++ rest) (omega arith)
        ∙ ap (λ taken. continued taken (λ high. give (n % 128 + 128 * high))) (high (omega arith))
        ∙ ap (λ v. Value v rest) (omega arith)

-- what was written is taken again, whatever follows
pub number_below-again : (k bound n : ℕ) (rest : List ℕ) → n < bound → n < limit (suc k) → number_below (suc k) bound (group_bytes (suc k) n ++ rest) ≡ Value n rest
unfolding number_below
number_below-again k bound n rest below fits =
    ap (λ taken. continued taken (λ m. only_if (nat_lt m bound) (give m))) (groups-again k n rest fits)
    ∙ ap (λ (b : Bool). only_if b (give n) rest) (lt-ltb n bound below)

pub vint-again : (n : ℕ) (rest : List ℕ) → n < 2 ^ 64 → vint (vint_bytes n ++ rest) ≡ Value n rest
unfolding vint vint_bytes
vint-again n rest h = number_below-again 9 (2 ^ 64) n rest h (omega arith)

pub vint128-again : (n : ℕ) (rest : List ℕ) → n < 2 ^ 128 → vint128 (vint128_bytes n ++ rest) ≡ Value n rest
unfolding vint128 vint128_bytes
vint128-again n rest h = number_below-again 18 (2 ^ 128) n rest h (omega arith)
