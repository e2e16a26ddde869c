-- Numbers in groups of seven bits: what a loop has written, and how many groups a number needs.
use Rattle.std.proofs.Common.{◌≡◌, ℕ, zero, suc, ◌+◌, ◌*◌, ◌/◌, ◌%◌, ◌^◌, ◌<◌, ◌≤◌, List, [], ◌∷◌, ◌++◌, length, take, Bool, true, false, refl, ap, sym, ◌∙◌, arith, append_assoc}
use Rattle.std.specs.Prelude.{nat_lt, slice_set}
use Rattle.std.proofs.lemmas.Bool.{lt-ltb, ltb-true, ltb-false}
use Rattle.std.proofs.Math.Nat.{mul-le-mul_left}
use Rattle.std.proofs.Math.ListN.{length-set}
use Rattle.std.proofs.lemmas.List.{take_more_set}
use Rattle.common_wire.specs.Taking.{Value, continued, give, only_if}
use Rattle.common_wire.specs.Wire.{groups, group_bytes, number_below, vint, vint_bytes, vint32}
use Rattle.common_wire.specs.Serialized.{limit}
use Rattle.common_wire.specs.TakingLaws.{continued_value}
use Rattle.common_wire.specs.GroupLaws.{group_bytes-last, group_bytes-more, groups-last, groups-more, groups-none, groups-cut, number_below-again}

-- room for more groups than a number has changes nothing
pub group_bytes-room : (k m n : ℕ) → n < limit k → n < limit m → 0 < k → 0 < m → group_bytes k n ≡ group_bytes m n
group_bytes-room zero m n fits fits2 some some2 = absurd (omega arith)
group_bytes-room (suc k) zero n fits fits2 some some2 = absurd (omega arith)
group_bytes-room (suc k) (suc m) n fits fits2 some some2 = by_size (nat_lt n 128) refl (λ a b c d. group_bytes-room k m (n / 128) a b c d)
  where
    positive : (j : ℕ) → 128 ≤ n → n < limit (suc j) → 0 < j
    positive zero large h = absurd (omega arith)
    positive (suc j) large h = omega arith

    by_size : (b : Bool) → nat_lt n 128 ≡ b → (n / 128 < limit k → n / 128 < limit m → 0 < k → 0 < m → group_bytes k (n / 128) ≡ group_bytes m (n / 128)) → group_bytes (suc k) n ≡ group_bytes (suc m) n
    by_size true e high = let small : n < 128 = ltb-true n 128 e in group_bytes-last k n small ∙ sym (group_bytes-last m n small)
    by_size false e high =
        let large : 128 ≤ n = ltb-false n 128 e in
        group_bytes-more k n large ∙ ap (λ l. n % 128 ∷ l) (high (omega arith) (omega arith) (positive k large fits) (positive m large fits2)) ∙ sym (group_bytes-more m n large)

-- what was written as a `VInt` is taken again in five bytes, whatever follows
pub vint32-again : (n : ℕ) (rest : List ℕ) → n < 2 ^ 32 → vint32 (vint_bytes n ++ rest) ≡ Value n rest
unfolding vint32 vint_bytes
vint32-again n rest h =
    ap (λ bytes. vint32 (bytes ++ rest)) (group_bytes-room 10 5 n (omega arith) (omega arith) (omega arith) (omega arith))
    ∙ number_below-again 4 (2 ^ 32) n rest h (omega arith)

-- more groups may follow, where none has to
groups-longer : (k m n : ℕ) (bytes rest : List ℕ) → k ≤ m → groups k bytes ≡ Value n rest → groups m bytes ≡ Value n rest
groups-longer zero m n bytes rest room e = let none = sym (groups-none bytes) ∙ e in absurd cc
groups-longer (suc k) zero n bytes rest room e = absurd (omega arith)
groups-longer (suc k) (suc m) n [] rest room e = let none = sym (groups-cut k) ∙ e in absurd cc
groups-longer (suc k) (suc m) n (b ∷ bytes) rest room e = by_size (nat_lt b 128) refl (λ high middle first. groups-longer k m high bytes middle (omega arith) first)
  where
    by_size : (t : Bool) → nat_lt b 128 ≡ t → ((high : ℕ) (middle : List ℕ) → groups k bytes ≡ Value high middle → groups m bytes ≡ Value high middle) → groups (suc m) (b ∷ bytes) ≡ Value n rest
    by_size true is more =
        let small : b < 128 = ltb-true b 128 is in
        let (high, middle, first, second) = continued_value (groups k bytes) (λ high. give (b + 128 * high)) n rest (sym (groups-more k b bytes small) ∙ e) in
        groups-more m b bytes small ∙ ap (λ taken. continued taken (λ others. give (b + 128 * others))) (more high middle first) ∙ second
    by_size false is more =
        let large : 128 ≤ b = ltb-false b 128 is in
        groups-last m b bytes large ∙ sym (groups-last k b bytes large) ∙ e

-- a number that five bytes spell is the one that a `VInt` reads
pub vint32-vint : (n : ℕ) (bytes rest : List ℕ) → vint32 bytes ≡ Value n rest → vint bytes ≡ Value n rest
unfolding vint32 vint number_below
vint32-vint n bytes rest e =
    let (m, middle, first, second) = continued_value (groups 5 bytes) (λ m. only_if (nat_lt m (2 ^ 32)) (give m)) n rest e in
    ap (λ taken. continued taken (λ k. only_if (nat_lt k (2 ^ 64)) (give k))) (groups-longer 5 10 m bytes middle (omega arith) first) ∙ by_size m middle (nat_lt m (2 ^ 32)) refl second
  where
    by_size : (m : ℕ) (middle : List ℕ) (t : Bool) → nat_lt m (2 ^ 32) ≡ t → only_if t (give m) middle ≡ Value n rest → only_if (nat_lt m (2 ^ 64)) (give m) middle ≡ Value n rest
    by_size m middle true is given = let small : m < 2 ^ 32 = ltb-true m (2 ^ 32) is in ap (λ (b : Bool). only_if b (give m) middle) (lt-ltb m (2 ^ 64) (omega arith)) ∙ given
    by_size m middle false is given = absurd cc

-- a loop that writes: so many groups are left, for the rest of the number
pub record Progress (val left len rest : ℕ) (buffer : List ℕ) : Type 0 where
  pub total : left + len ≡ length buffer
  pub fits : rest < limit left
  pub some : 0 < left
  pub written : take len buffer ++ group_bytes left rest ≡ group_bytes (length buffer) val

-- one more group
pub Progress-more : (val left more len rest : ℕ) (buffer : List ℕ) → Progress val left len rest buffer → left ≡ suc more → 128 ≤ rest
    → Progress val more (len + 1) (rest / 128) (slice_set buffer len (rest % 128))
Progress-more val zero more len rest buffer p e h = absurd (omega (arith, p.some))
Progress-more val (suc left) zero len rest buffer p e h =
    let one : left ≡ 0 = omega (arith, e) in
    let small : rest < limit (suc 0) = rw one at p.fits in absurd (omega (arith, small))
Progress-more val (suc left) (suc k) len rest buffer p e h =
    let below : len < length buffer = omega (arith, p.total) in
    let same : left ≡ suc k = omega (arith, e) in
    let fits : rest < limit (suc (suc k)) = rw same at p.fits in
    let written : take len buffer ++ group_bytes (suc (suc k)) rest ≡ group_bytes (length buffer) val = rw same at p.written in
    let long : length (slice_set buffer len (rest % 128)) ≡ length buffer = simp length-set in
    record {
      total = omega (arith, p.total, e, long);
      fits = omega (arith, fits);
      some = omega arith;
      written = rw (take_more_set buffer len (rest % 128) below) (append_assoc (take len buffer) (rest % 128 ∷ []) (group_bytes (suc k) (rest / 128))
          ∙ ap (λ more. take len buffer ++ more) (sym (group_bytes-more (suc k) rest h)) ∙ written ∙ ap (λ n. group_bytes n val) (sym long));
    }

-- the last group
pub Progress-end : (val left len rest : ℕ) (buffer : List ℕ) → Progress val left len rest buffer → rest < 128
    → (len < length buffer) × (take (len + 1) (slice_set buffer len (rest + 128)) ≡ group_bytes (length buffer) val)
Progress-end val zero len rest buffer p h = absurd (omega (arith, p.some))
Progress-end val (suc k) len rest buffer p h =
    let below : len < length buffer = omega (arith, p.total) in
    (below, rw (take_more_set buffer len (rest + 128) below) (ap (λ more. take len buffer ++ more) (sym (group_bytes-last k rest h)) ∙ p.written))

limit-positive : (i : ℕ) → 0 < limit i
limit-positive zero = omega arith
limit-positive (suc i) = omega (arith, limit-positive i)

pub limit-rising : (i k : ℕ) → i < k → 128 * limit i ≤ limit k
limit-rising i zero h = absurd (omega arith)
limit-rising zero (suc k) h = omega (arith, limit-positive k)
limit-rising (suc i) (suc k) h = omega (arith, limit-rising i k (omega arith))

-- one more group stays below the next limit
pub group_below : (v s b i : ℕ) → v < s → s ≡ limit i → b < 128 → v + s * b < limit (suc i)
group_below v s b i below scaled group = let more : s * b ≤ s * 127 = mul-le-mul_left s (omega arith) in omega (arith, more)

pub limit-least : (i k : ℕ) → i ≤ k → limit i ≤ limit k
limit-least zero k h = omega (arith, limit-positive k)
limit-least (suc i) zero h = absurd (omega arith)
limit-least (suc i) (suc k) h = omega (arith, limit-least i k (omega arith))
