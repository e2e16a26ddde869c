-- Laws of numbers that don't fall, stored as differences.
use Rattle.std.proofs.Common.{◌≡◌, ℕ, suc, ◌+◌, ◌-◌, ◌^◌, ◌<◌, ◌≤◌, List, [], ◌∷◌, ◌++◌, length, take, drop, get_or, Bool, true, false, Option, Some, refl, ap, sym, ◌∙◌, arith, append_assoc, append-nil, add-one, drop-cons, length-drop}
use Rattle.std.specs.Prelude.{nat_lt, nat_le, ◌&&◌}
use Rattle.std.specs.Io.{StartsWith}
use Rattle.std.proofs.lemmas.Bool.{lt-ltb, leb-true}
use Rattle.std.proofs.lemmas.List.{drop_all, take_all}
use Rattle.owned_bytes.specs.Front.{◌>>=◌, provided}
use Rattle.sstable_values.specs.Vint.{vint, vint_at}
use Rattle.sstable_values.proofs.VintLaws.{vint-again}
use Rattle.sstable_values.specs.Codec.{never_falls, sums, rising_numbers, sums_at, rising_numbers_at}

pub provided-true : (b : Bool) (x : Unit {0}) → provided b ≡ Some x → b ≡ true
provided-true true x e = refl
provided-true false x e = absurd cc

pub both-true : (a b : Bool) → (a && b) ≡ true → (a ≡ true) × (b ≡ true)
both-true true b e = (refl, e)
both-true false b e = cc

-- what begins with some bytes does so with more behind it
pub starts-more : (bytes more front : List ℕ) → StartsWith bytes front → StartsWith (bytes ++ more) front
starts-more bytes more [] starts = refl
starts-more [] more (x ∷ front) starts = cc
starts-more (y ∷ bytes) more (x ∷ front) starts =
    let head : y ≡ x = cc in
    let tail : take (length front) bytes ≡ front = cc in
    ap (λ (z : ℕ). z ∷ take (length front) (bytes ++ more)) head ∙ ap (λ (zs : List ℕ). x ∷ zs) (starts-more bytes more front tail)

-- a loop that writes: the numbers from place i on are left
pub record Writing (before i : ℕ) (numbers output whole : List ℕ) : Type 0 where
  pub written : output ++ sums before (drop i numbers) ≡ whole
  pub rising : never_falls before (drop i numbers) ≡ true

-- one more number
pub Writing-more : (before i : ℕ) (numbers output whole : List ℕ) → Writing before i numbers output whole → i < length numbers
    → (before ≤ get_or numbers i 0) × Writing (get_or numbers i 0) (i + 1) numbers (output ++ vint (get_or numbers i 0 - before)) whole
unfolding sums
Writing-more before i numbers output whole w h =
    let n = get_or numbers i 0 in
    let e : drop i numbers ≡ n ∷ drop (i + 1) numbers = rw add-one (drop-cons numbers i 0 h) in
    let parts : (nat_le before n ≡ true) × (never_falls n (drop (i + 1) numbers) ≡ true) = both-true _ _ (ap (never_falls before) (sym e) ∙ w.rising) in (
      leb-true _ _ parts.0,
      record {
        written = append_assoc output (vint (n - before)) (sums n (drop (i + 1) numbers)) ∙ ap (λ ns. output ++ sums before ns) (sym e) ∙ w.written;
        rising = parts.1;
      },
    )

-- what is left to do after one difference
abbrev pub next_sum : ℕ → ℕ → ℕ × List ℕ → Bool → Option (List ℕ × List ℕ)
next_sum left before difference fits =
    provided fits >>= (λ _. sums_at left (before + difference.0) difference.1 >>= (λ others. Some ((before + difference.0) ∷ others.0, others.1)))

pub sums_at-more : (left before : ℕ) (bytes : List ℕ) (difference : ℕ × List ℕ) → vint_at bytes ≡ Some difference
    → sums_at (suc left) before bytes ≡ next_sum left before difference (nat_lt (before + difference.0) (2 ^ 64))
unfolding sums_at
sums_at-more left before bytes difference e = ap (λ o. o >>= (λ d. next_sum left before d (nat_lt (before + d.0) (2 ^ 64)))) e

pub Writing-end : (before i : ℕ) (numbers output whole : List ℕ) → Writing before i numbers output whole → length numbers ≤ i → output ≡ whole
unfolding sums
Writing-end before i numbers output whole w h =
    sym (append-nil output) ∙ ap (λ ns. output ++ sums before ns) (sym (drop_all i numbers h)) ∙ w.written

pub Writing-begin : (numbers output : List ℕ) → never_falls 0 numbers ≡ true → Writing 0 0 numbers (output ++ vint (length numbers)) (output ++ rising_numbers numbers)
Writing-begin numbers output h = record { written = append_assoc output (vint (length numbers)) (sums 0 numbers); rising = h }

-- the value of `&bytes[n..]`
pub rest_is : (n : ℕ) (bytes : List ℕ) → take (length bytes - n) (drop n bytes) ≡ drop n bytes
rest_is n bytes = take_all (length bytes - n) (drop n bytes) (simp length-drop (omega arith))

sums_at-none : (start : ℕ) (bytes : List ℕ) → sums_at 0 start bytes ≡ Some ([], bytes)
unfolding sums_at
sums_at-none start bytes = refl

sums-again : (ns : List ℕ) (start : ℕ) (rest : List ℕ) → never_falls start ns ≡ true → ((i : ℕ) → get_or ns i 0 < 2 ^ 64) → sums_at (length ns) start (sums start ns ++ rest) ≡ Some (ns, rest)
unfolding sums
sums-again [] start rest rise fits = sums_at-none start rest
sums-again (n ∷ ns) start rest rise fits =
    let parts = both-true _ _ rise in
    let up : start ≤ n = leb-true _ _ parts.0 in
    let same : start + (n - start) ≡ n = omega arith in
    let small : n < 2 ^ 64 = fits 0 in
    let read : vint_at (vint (n - start) ++ sums n ns ++ rest) ≡ Some (n - start, sums n ns ++ rest)
    = rw append_assoc (vint-again (n - start) (sums n ns ++ rest) (omega arith)) in
    sums_at-more (length ns) start (vint (n - start) ++ sums n ns ++ rest) (n - start, sums n ns ++ rest) read
    ∙ ap (λ m. next_sum_of m (sums n ns ++ rest) (nat_lt m (2 ^ 64))) same
    ∙ ap (next_sum_of n (sums n ns ++ rest)) (lt-ltb n (2 ^ 64) small)
    ∙ ap (λ o. o >>= (λ others. Some (n ∷ others.0, others.1))) (sums-again ns n rest parts.1 (λ i. fits (suc i)))
  where
    next_sum_of : ℕ → List ℕ → Bool → Option (List ℕ × List ℕ)
    next_sum_of m bytes fits = provided fits >>= (λ _. sums_at (length ns) m bytes >>= (λ others. Some (m ∷ others.0, others.1)))

-- numbers that were written are read again, whatever follows
pub rising-again : (ns rest : List ℕ) → length ns < 2 ^ 64 → never_falls 0 ns ≡ true → ((i : ℕ) → get_or ns i 0 < 2 ^ 64) → rising_numbers_at (rising_numbers ns ++ rest) ≡ Some (ns, rest)
unfolding rising_numbers_at
rising-again ns rest short rise fits =
    let read : vint_at (vint (length ns) ++ sums 0 ns ++ rest) ≡ Some (length ns, sums 0 ns ++ rest) = rw append_assoc (vint-again (length ns) (sums 0 ns ++ rest) short) in
    ap (λ o. o >>= (λ count. sums_at count.0 0 count.1)) read ∙ sums-again ns 0 rest rise fits
