-- Laws of numbers in groups of seven bits.
use Rattle.std.proofs.Common.{◌≡◌, ℕ, zero, suc, ◌+◌, ◌-◌, ◌*◌, ◌/◌, ◌%◌, ◌^◌, ◌<◌, ◌≤◌, List, [], ◌∷◌, ◌++◌, length, take, drop, Bool, true, false, cond, Option, Some, None, refl, ap, sym, ◌∙◌, subst, arith, length-drop, append_assoc}
use Rattle.std.specs.Prelude.{nat_lt, slice_set}
use Rattle.std.proofs.lemmas.Bool.{lt-ltb, le-ltb, ltb-true, ltb-false}
use Rattle.std.proofs.Common.{get_or, add-one, drop-cons}
use Rattle.std.proofs.Math.Nat.{mul-le-mul_left}
use Rattle.std.proofs.Math.ListN.{set, length-set}
use Rattle.std.proofs.lemmas.List.{drop-set-lt, take_more_set, drop_all}
use Rattle.owned_bytes.specs.Front.{◌>>=◌, provided}
use Rattle.owned_bytes.proofs.Pieces.{bind_some, some_is}
use Rattle.sstable_values.specs.Vint.{groups, groups_at, vint, vint_at, SpellsVint}

-- numbers below it have at most so many groups
abbrev pub limit : ℕ → ℕ
limit zero = 1
limit (suc k) = 128 * limit k

pub groups-last : (k n : ℕ) → n < 128 → groups (suc k) n ≡ n ∷ []
unfolding groups
groups-last k n h = ap (λ b. cond b (n ∷ []) ((128 + n % 128) ∷ groups k (n / 128))) (lt-ltb n 128 h)

pub groups-more : (k n : ℕ) → 128 ≤ n → groups (suc k) n ≡ (128 + n % 128) ∷ groups k (n / 128)
unfolding groups
groups-more k n h = ap (λ b. cond b (n ∷ []) ((128 + n % 128) ∷ groups k (n / 128))) (le-ltb n 128 h)

pub groups_at-last : (k b : ℕ) (bytes : List ℕ) → b < 128 → groups_at (suc k) (b ∷ bytes) ≡ Some (b, bytes)
unfolding groups_at
groups_at-last k b bytes h = ap (λ t. cond t (Some (b, bytes)) (groups_at k bytes >>= (λ high. Some (b - 128 + 128 * high.0, high.1)))) (lt-ltb b 128 h)

pub groups_at-more : (k b : ℕ) (bytes : List ℕ) → 128 ≤ b → groups_at (suc k) (b ∷ bytes) ≡ (groups_at k bytes >>= (λ high. Some (b - 128 + 128 * high.0, high.1)))
unfolding groups_at
groups_at-more k b bytes h = ap (λ t. cond t (Some (b, bytes)) (groups_at k bytes >>= (λ high. Some (b - 128 + 128 * high.0, high.1)))) (le-ltb b 128 h)

-- a loop that writes: so many groups are left, for the rest of the number
pub record Progress (val left len rest : ℕ) (buffer initial : List ℕ) : Type 0 where
  pub total : left + len ≡ 10
  pub fits : rest < limit left
  pub some : 0 < left
  pub room : 10 ≤ length buffer
  pub written : take len buffer ++ groups left rest ≡ vint val
  pub others : (n : ℕ) → len ≤ n → drop n buffer ≡ drop n initial

pub Progress-begin : (val : ℕ) (buffer : List ℕ) → val < 2 ^ 64 → 10 ≤ length buffer → Progress val 10 0 val buffer buffer
unfolding vint
Progress-begin val buffer h room = record { total = refl; fits = omega arith; some = omega arith; room = room; written = refl; others = λ n _. refl }

-- one more group
pub Progress-more : (val left more len rest : ℕ) (buffer initial : List ℕ) → Progress val left len rest buffer initial → left ≡ suc more → 128 ≤ rest
    → Progress val more (len + 1) (rest / 128) (slice_set buffer len (128 + rest % 128)) initial
Progress-more val zero more len rest buffer initial p e h = absurd (omega (arith, p.some))
Progress-more val (suc left) zero len rest buffer initial p e h =
    let one : left ≡ 0 = omega (arith, e) in
    let small : rest < limit (suc 0) = rw one at p.fits in absurd (omega (arith, small))
Progress-more val (suc left) (suc k) len rest buffer initial p e h =
    let below : len < length buffer = omega (arith, p.total, p.room) in
    let same : left ≡ suc k = omega (arith, e) in
    let fits : rest < limit (suc (suc k)) = rw same at p.fits in
    let written : take len buffer ++ groups (suc (suc k)) rest ≡ vint val = rw same at p.written in
    record {
      total = omega (arith, p.total, e);
      fits = omega (arith, fits);
      some = omega arith;
      room = simp length-set p.room;
      written = rw (take_more_set buffer len (128 + rest % 128) below) (append_assoc (take len buffer) ((128 + rest % 128) ∷ []) (groups (suc k) (rest / 128)) ∙ ap (λ more. take len buffer ++ more) (sym (groups-more (suc k) rest h)) ∙ written);
      others = λ n above. drop-set-lt n buffer len (128 + rest % 128) (omega arith) ∙ p.others n (omega arith);
    }

-- the last group
pub Progress-end : (val left len rest : ℕ) (buffer initial : List ℕ) → Progress val left len rest buffer initial → rest < 128
    → (len < 10) × (take (len + 1) (slice_set buffer len rest) ≡ vint val) × (drop (len + 1) (slice_set buffer len rest) ≡ drop (len + 1) initial)
Progress-end val zero len rest buffer initial p h = absurd (omega (arith, p.some))
Progress-end val (suc k) len rest buffer initial p h =
    let below : len < length buffer = omega (arith, p.total, p.room) in (
      omega (arith, p.total),
      rw (take_more_set buffer len rest below) (ap (λ more. take len buffer ++ more) (sym (groups-last k rest h)) ∙ p.written),
      drop-set-lt (len + 1) buffer len rest (omega arith) ∙ p.others (len + 1) (omega arith),
    )

-- a number that is read after other groups
abbrev pub after_groups : ℕ → ℕ → Option (ℕ × List ℕ) → Option (ℕ × List ℕ)
after_groups value scale found = found >>= (λ high. Some (value + scale * high.0, high.1))

-- a loop that reads: i groups were read, and the rest of the number stands at place i, in at most left bytes
pub record Reads (left i value scale : ℕ) (bytes : List ℕ) : Type 0 where
  pub total : left + i ≡ 10
  pub some : 0 < left
  pub scaled : scale ≡ limit i
  pub below : value < scale
  pub within : i ≤ length bytes
  pub found : groups_at 10 bytes ≡ after_groups value scale (groups_at left (drop i bytes))

pub Reads-begin : (bytes : List ℕ) → Reads 10 0 0 1 bytes
Reads-begin bytes = record { total = refl; some = omega arith; scaled = refl; below = omega arith; within = omega arith; found = first (groups_at 10 bytes) }
  where
    first : (found : Option (ℕ × List ℕ)) → found ≡ after_groups 0 1 found
    first None = refl
    first (Some high) = ap (λ n. Some (n, high.1)) (omega arith)

regrouped : (v s g h : ℕ) → v + s * (g + 128 * h) ≡ v + s * g + s * 128 * h
regrouped v s g h = omega arith

after_more : (v s g : ℕ) (found : Option (ℕ × List ℕ)) → after_groups v s (found >>= (λ high. Some (g + 128 * high.0, high.1))) ≡ after_groups (v + s * g) (s * 128) found
after_more v s g None = refl
after_more v s g (Some high) = ap (λ n. Some (n, high.1)) (regrouped v s g high.0)

pub Reads-more : (left more i v s : ℕ) (bytes : List ℕ) → Reads left i v s bytes → left ≡ suc more → 0 < more → i < length bytes
    → 128 ≤ get_or bytes i 0 → get_or bytes i 0 < 256 → Reads more (i + 1) (v + s * (get_or bytes i 0 - 128)) (s * 128) bytes
Reads-more left more i v s bytes p e some h group fits =
    let g = get_or bytes i 0 - 128 in
    let small : s * g ≤ s * 127 = mul-le-mul_left s (omega arith) in
    let found : groups_at 10 bytes ≡ after_groups v s (groups_at (suc more) (drop i bytes)) = rw e at p.found in
    record {
      total = omega (arith, p.total, e);
      some = some;
      scaled = rw (add-one i) (rw (← p.scaled) (omega arith));
      below = omega (arith, small, p.below);
      within = omega arith;
      found = found ∙ ap (λ rest. after_groups v s (groups_at (suc more) rest)) (drop-cons bytes i 0 h)
          ∙ ap (after_groups v s) (groups_at-more more (get_or bytes i 0) (drop (suc i) bytes) group)
          ∙ after_more v s g (groups_at more (drop (suc i) bytes))
          ∙ ap (λ n. after_groups (v + s * g) (s * 128) (groups_at more (drop n bytes))) (sym (add-one i));
    }

-- a number that fits 64 bits
abbrev pub fitting : Option (ℕ × List ℕ) → Option (ℕ × List ℕ)
fitting found = found >>= (λ n. provided (nat_lt n.0 (2 ^ 64)) >>= (λ _. Some n))

abbrev pub if_fits : ℕ × List ℕ → Bool → Option (ℕ × List ℕ)
if_fits n b = provided b >>= (λ _. Some n)

-- the bytes end before the number does
pub Reads-cut : (left i v s : ℕ) (bytes : List ℕ) → Reads left i v s bytes → length bytes ≤ i → vint_at bytes ≡ None
unfolding vint_at groups_at
Reads-cut zero i v s bytes p h = absurd (omega (arith, p.some))
Reads-cut (suc k) i v s bytes p h = ap fitting (p.found ∙ ap (λ rest. after_groups v s (groups_at (suc k) rest)) (drop_all i bytes h))

-- the last group
pub Reads-end : (left i v s : ℕ) (bytes : List ℕ) → Reads left i v s bytes → i < length bytes → get_or bytes i 0 < 128
    → v + s * get_or bytes i 0 < 2 ^ 64 → vint_at bytes ≡ Some (v + s * get_or bytes i 0, drop (i + 1) bytes)
unfolding vint_at
Reads-end zero i v s bytes p h group fits = absurd (omega (arith, p.some))
Reads-end (suc k) i v s bytes p h group fits =
    ap fitting (p.found ∙ ap (λ rest. after_groups v s (groups_at (suc k) rest)) (drop-cons bytes i 0 h)
    ∙ ap (after_groups v s) (groups_at-last k (get_or bytes i 0) (drop (suc i) bytes) group))
    ∙ ap (if_fits (v + s * get_or bytes i 0, drop (suc i) bytes)) (lt-ltb (v + s * get_or bytes i 0) (2 ^ 64) fits)
    ∙ ap (λ n. Some (v + s * get_or bytes i 0, drop n bytes)) (sym (add-one i))

-- a last group of more than fits
pub Reads-large : (left v s : ℕ) (bytes : List ℕ) → Reads left 9 v s bytes → 9 < length bytes → 2 ≤ get_or bytes 9 0 → vint_at bytes ≡ None
unfolding vint_at groups_at
Reads-large left v s bytes p h group =
    let one : left ≡ 1 = omega (arith, p.total) in
    let found : groups_at 10 bytes ≡ after_groups v s (groups_at 1 (drop 9 bytes)) = rw one at p.found in
    ap fitting (found ∙ ap (λ rest. after_groups v s (groups_at 1 rest)) (drop-cons bytes 9 0 h)) ∙ by_group (nat_lt (get_or bytes 9 0) 128)
  where
    large : (2 ^ 64) ≤ v + s * get_or bytes 9 0
    large = let more : s * 2 ≤ s * get_or bytes 9 0 = mul-le-mul_left s group in omega (arith, more, p.scaled)

    by_group : (b : Bool) → fitting (after_groups v s (cond b (Some (get_or bytes 9 0, drop 10 bytes)) None)) ≡ None
    by_group true = ap (if_fits (v + s * get_or bytes 9 0, drop 10 bytes)) (le-ltb (v + s * get_or bytes 9 0) (2 ^ 64) large)
    by_group false = refl

limit-small : (i : ℕ) → i < 9 → limit i ≤ 2 ^ 56
limit-small zero h = omega arith
limit-small (suc i) h = omega (arith, limit-steps i 8 (omega arith))
  where
    limit-pos : (i : ℕ) → 0 < limit i
    limit-pos zero = omega arith
    limit-pos (suc i) = omega (arith, limit-pos i)

    limit-steps : (i k : ℕ) → i < k → 128 * limit i ≤ limit k
    limit-steps i zero h = absurd (omega arith)
    limit-steps zero (suc k) h = omega (arith, limit-pos k)
    limit-steps (suc i) (suc k) h = omega (arith, limit-steps i k (omega arith))

-- a group before the tenth fits, and a tenth that is 0 or 1
pub Reads-fits : (left i v s b : ℕ) (bytes : List ℕ) → Reads left i v s bytes → i < 9 → b < 128 → v + s * b < 2 ^ 64
Reads-fits left i v s b bytes p h group =
    let more : s * b ≤ s * 127 = mul-le-mul_left s (omega arith) in omega (arith, more, p.below, p.scaled, limit-small i h)

pub Reads-fits_last : (left v s b : ℕ) (bytes : List ℕ) → Reads left 9 v s bytes → b < 2 → v + s * b < 2 ^ 64
Reads-fits_last left v s b bytes p group =
    let more : s * b ≤ s * 1 = mul-le-mul_left s (omega arith) in omega (arith, more, p.below, p.scaled)

groups-again : (k n : ℕ) (rest : List ℕ) → n < limit (suc k) → groups_at (suc k) (groups (suc k) n ++ rest) ≡ Some (n, rest)
groups-again zero n rest h =
    let small : n < 128 = omega arith in
    ap (λ bytes. groups_at 1 (bytes ++ rest)) (groups-last 0 n small) ∙ groups_at-last 0 n rest small
groups-again (suc k) n rest h = by_size (nat_lt n 128) refl (λ small. groups-again k (n / 128) rest small)
  where
    by_size : (b : Bool) → nat_lt n 128 ≡ b → (n / 128 < limit (suc k) → groups_at (suc k) (groups (suc k) (n / 128) ++ rest) ≡ Some (n / 128, rest)) → groups_at (suc (suc k)) (groups (suc (suc k)) n ++ rest) ≡ Some (n, rest)
    by_size true e high =
        let small : n < 128 = ltb-true n 128 e in
        ap (λ bytes. groups_at (suc (suc k)) (bytes ++ rest)) (groups-last (suc k) n small) ∙ groups_at-last (suc k) n rest small
    by_size false e high =
        let large : 128 ≤ n = ltb-false n 128 e in
        ap (λ bytes. groups_at (suc (suc k)) (bytes ++ rest)) (groups-more (suc k) n large)
        ∙ groups_at-more (suc k) (128 + n % 128) (groups (suc k) (n / 128) ++ rest) (omega arith)
        ∙ ap (λ o. o >>= (λ high. Some (128 + n % 128 - 128 + 128 * high.0, high.1))) (high (omega arith))
        ∙ ap (λ v. Some (v, rest)) (omega arith)

-- what was written is read again, whatever follows
pub vint-again : (n : ℕ) (rest : List ℕ) → n < 2 ^ 64 → vint_at (vint n ++ rest) ≡ Some (n, rest)
unfolding vint_at vint
vint-again n rest h = ap fitting (groups-again 9 n rest (omega arith)) ∙ ap (if_fits (n, rest)) (lt-ltb n (2 ^ 64) h)

-- a number that was read fits 64 bits
pub vint-fits : (bytes : List ℕ) (n : ℕ) (rest : List ℕ) → vint_at bytes ≡ Some (n, rest) → n < 2 ^ 64
unfolding vint_at
vint-fits bytes n rest e =
    let step = bind_some (groups_at 10 bytes) (λ found. if_fits found (nat_lt found.0 (2 ^ 64))) (n, rest) e in
    by_test step.0 (nat_lt step.0.0 (2 ^ 64)) refl step.2
  where
    by_test : (found : ℕ × List ℕ) (fits : Bool) → nat_lt found.0 (2 ^ 64) ≡ fits → if_fits found fits ≡ Some (n, rest) → n < 2 ^ 64
    by_test found true t same = let is : found ≡ (n, rest) = some_is _ _ same in omega (arith, ltb-true _ _ t, ap (λ (p : ℕ × List ℕ). p.0) is)
    by_test found false t same = absurd cc

-- a number that is spelled at the front, in the shortest form or a longer one, is read
pub spelled-read : (k : ℕ) (front rest : List ℕ) (n : ℕ) → SpellsVint front n → length front ≤ k → groups_at k (front ++ rest) ≡ Some (n, rest)
spelled-read k [] rest n is fits = absurd is
spelled-read zero (b ∷ front) rest n is fits = absurd (omega arith)
spelled-read (suc k) (b ∷ []) rest n is fits = groups_at-last k b rest is.0 ∙ ap (λ m. Some (m, rest)) (sym is.1)
spelled-read (suc k) (b ∷ c ∷ front) rest n is fits =
    groups_at-more k b (c ∷ front ++ rest) is.0
    ∙ ap (λ o. o >>= (λ high. Some (b - 128 + 128 * high.0, high.1))) (spelled-read k (c ∷ front) rest is.2 is.4 (omega (arith, fits)))
    ∙ ap (λ m. Some (m, rest)) (omega (arith, is.0, is.3))

-- none is read only where no front of at most ten bytes spells a number of 64 bits
pub vint-none : (bytes front rest : List ℕ) (n : ℕ) → vint_at bytes ≡ None → bytes ≡ front ++ rest → length front ≤ 10 → n < 2 ^ 64 → SpellsVint front n → ⊥
unfolding vint_at
vint-none bytes front rest n none same fits small is =
    let read : vint_at (front ++ rest) ≡ Some (n, rest) = ap fitting (spelled-read 10 front rest n is fits) ∙ ap (if_fits (n, rest)) (lt-ltb n (2 ^ 64) small) in
    let none_here : vint_at (front ++ rest) ≡ None = ap vint_at (sym same) ∙ none in
    cc

-- What was read is spelled by the bytes before the rest.
pub record IsSpelled (bytes rest : List ℕ) (n : ℕ) : Type 0 where
  pub len : ℕ
  pub within : len ≤ length bytes
  pub rest_is : rest ≡ drop len bytes
  pub spells : SpellsVint (take len bytes) n

read-spelled : (k : ℕ) (bytes : List ℕ) (n : ℕ) (rest : List ℕ) → ((i : ℕ) → get_or bytes i 0 < 256) → groups_at k bytes ≡ Some (n, rest) → IsSpelled bytes rest n
unfolding groups_at
read-spelled zero bytes n rest fits e = absurd cc
read-spelled (suc k) [] n rest fits e = absurd cc
read-spelled (suc k) (b ∷ bytes) n rest fits e = by_test (nat_lt b 128) refl e (λ m left. read-spelled k bytes m left (λ i. fits (suc i)))
  where
    more : ℕ × List ℕ → Option (ℕ × List ℕ)
    more high = Some (b - 128 + 128 * high.0, high.1)

    with_group : (front : List ℕ) (high : ℕ) → 128 ≤ b → n ≡ b - 128 + 128 * high → SpellsVint front high → SpellsVint (b ∷ front) n
    with_group [] high large is spells = absurd spells
    with_group (c ∷ front) high large is spells = (large, fits 0, high, omega (arith, large, is), spells)

    by_test : (last : Bool) → nat_lt b 128 ≡ last → cond last (Some (b, bytes)) (groups_at k bytes >>= more) ≡ Some (n, rest)
        → ((m : ℕ) (left : List ℕ) → groups_at k bytes ≡ Some (m, left) → IsSpelled bytes left m) → IsSpelled (b ∷ bytes) rest n
    by_test true t e again =
        let same : (b, bytes) ≡ (n, rest) = some_is _ _ e in
        record { len = 1; within = omega arith; rest_is = sym (ap (λ (p : ℕ × List ℕ). p.1) same); spells = (ltb-true b 128 t, sym (ap (λ (p : ℕ × List ℕ). p.0) same)) }
    by_test false t e again =
        let step = bind_some (groups_at k bytes) more (n, rest) e in
        let same : (b - 128 + 128 * step.0.0, step.0.1) ≡ (n, rest) = some_is _ _ step.2 in
        let inner = again step.0.0 step.0.1 step.1 in
        record {
          len = suc inner.len;
          within = omega (arith, inner.within);
          rest_is = sym (ap (λ (p : ℕ × List ℕ). p.1) same) ∙ inner.rest_is;
          spells = with_group (take inner.len bytes) step.0.0 (ltb-false b 128 t) (sym (ap (λ (p : ℕ × List ℕ). p.0) same)) inner.spells;
        }

-- the bytes that were taken spell the number
pub vint-spelled : (bytes : List ℕ) (n len : ℕ) → ((i : ℕ) → get_or bytes i 0 < 256) → len ≤ length bytes → vint_at bytes ≡ Some (n, drop len bytes) → SpellsVint (take len bytes) n
unfolding vint_at
vint-spelled bytes n len fits within e =
    let step = bind_some (groups_at 10 bytes) (λ found. if_fits found (nat_lt found.0 (2 ^ 64))) (n, drop len bytes) e in
    by_test step.0 (nat_lt step.0.0 (2 ^ 64)) step.1 step.2
  where
    by_test : (found : ℕ × List ℕ) (small : Bool) → groups_at 10 bytes ≡ Some found → if_fits found small ≡ Some (n, drop len bytes) → SpellsVint (take len bytes) n
    by_test found true read same =
        let is : found ≡ (n, drop len bytes) = some_is _ _ same in
        let inner = read-spelled 10 bytes n (drop len bytes) fits (read ∙ ap Some is) in
        let sizes : length (drop len bytes) ≡ length (drop inner.len bytes) = ap length inner.rest_is in
        let equal : inner.len ≡ len = omega (arith, sizes, length-drop len bytes, length-drop inner.len bytes, inner.within, within) in
        subst (λ j. SpellsVint (take j bytes) n) equal inner.spells
    by_test found false read same = absurd cc
