-- Laws of deltas: what was written is read again, and gives the keys.
use Rattle.std.proofs.Common.{◌≡◌, ℕ, zero, suc, ◌+◌, ◌-◌, ◌*◌, ◌/◌, ◌%◌, ◌^◌, ◌<◌, ◌≤◌, List, [], ◌∷◌, ◌++◌, length, take, drop, Bool, true, false, cond, Option, Some, None, refl, ap, sym, ◌∙◌, arith, append_assoc, append-nil, length-append, one-add, inl, inr}
use Rattle.std.proofs.lemmas.Bool.Decides.{eqb_tells}
use Rattle.std.specs.Prelude.{nat_lt, nat_eq, ◌&&◌, ◌==◌}
use Rattle.std.specs.List.{flat_map, AllByRecursion}
use Rattle.std.proofs.lemmas.Bool.{ltb-true, le-leb, lt-leb, eqb-true, eq-eqb}
use Rattle.std.proofs.lemmas.List.{take-append-drop}
use Rattle.std.proofs.Math.Seq.{take-append_seam, drop-append_seam}
use Rattle.owned_bytes.specs.Front.{◌>>=◌, provided, bytes_at, Piece, piece_or_fault, pieces}
use Rattle.owned_bytes.specs.Keys.{Key, shared, is_below, is_rising}
use Rattle.owned_bytes.proofs.Pieces.{Shrinks, pieces-spelled, pieces-step, with_front, bind_some, some_is, piece_is, bytes_at-shrinks}
use Rattle.sstable_values.specs.Vint.{vint, vint_at, groups_at}
use Rattle.sstable_blocks.specs.Delta.{Delta, two_vints_at, keep_and_add_at, delta_at}
use Rattle.sstable_blocks.specs.Block.{front_of_deltas, key_after, keys_after, delta, delta_between, deltas_between}
use Rattle.sstable_values.proofs.RisingLaws.{both-true}
use Rattle.sstable_values.proofs.VintLaws.{vint-again}

-- so many bytes, whatever follows them
pub bytes_at-again : (bytes rest : List ℕ) → bytes_at (length bytes) (bytes ++ rest) ≡ Some (bytes, rest)
bytes_at-again bytes rest =
    ap (λ b. provided b >>= (λ _. Some (take (length bytes) (bytes ++ rest), drop (length bytes) (bytes ++ rest)))) (le-leb (length bytes) (length (bytes ++ rest)) (simp length-append (omega arith)))
    ∙ ap (λ front. Some (front, drop (length bytes) (bytes ++ rest))) (take-append_seam bytes rest)
    ∙ ap (λ back. Some (bytes, back)) (drop-append_seam bytes rest)

-- a delta that can be written: lengths of 64 bits, and not one byte kept with none added
pub record Fits (d : Delta) : Type 0 where
  pub keep : d.keep < 2 ^ 64
  pub add : length d.suffix < 2 ^ 64
  pub told : d.keep ≡ 1 → 0 < length d.suffix

two_vints-again : (a b : ℕ) (rest : List ℕ) → a < 2 ^ 64 → b < 2 ^ 64 → two_vints_at (vint a ++ (vint b ++ rest)) ≡ Some ((a, b), rest)
two_vints-again a b rest ha hb =
    ap (λ o. o >>= (λ first. vint_at first.1 >>= (λ second. Some ((first.0, second.0), second.1)))) (vint-again a (vint b ++ rest) ha)
    ∙ ap (λ o. o >>= (λ second. Some ((a, second.0), second.1))) (vint-again b rest hb)

-- with the lengths read, the suffix is
with_suffix : (bytes : List ℕ) (keep : ℕ) (suffix rest : List ℕ) → keep_and_add_at bytes ≡ Some ((keep, length suffix), suffix ++ rest)
    → delta_at bytes ≡ Some (record { keep = keep; suffix = suffix }, rest)
unfolding delta_at
with_suffix bytes keep suffix rest e =
    ap (λ o. o >>= (λ lens. bytes_at lens.0.1 lens.1 >>= (λ found. Some (record { keep = lens.0.0; suffix = found.0 }, found.1)))) e
    ∙ ap (λ o. o >>= (λ found. Some (record { keep = keep; suffix = found.0 }, found.1))) (bytes_at-again suffix rest)

-- a delta that was written is read again, whatever follows
pub delta-again : (d : Delta) (rest : List ℕ) → Fits d → delta_at (delta d ++ rest) ≡ Some (d, rest)
delta-again d rest fits = by_form (nat_lt d.keep 16 && nat_lt (length d.suffix) 16) refl
  where
    short_byte : nat_lt d.keep 16 && nat_lt (length d.suffix) 16 ≡ true → nat_eq (d.keep + 16 * length d.suffix) 1 ≡ false
    short_byte e = elim (eqb_tells (d.keep + 16 * length d.suffix) 1) [
      | inl same ↦ absurd (omega (arith, same.1, fits.told))
      | inr other ↦ other.0
    ]

    by_form : (short : Bool) → nat_lt d.keep 16 && nat_lt (length d.suffix) 16 ≡ short
        → delta_at ((cond short ((d.keep + 16 * length d.suffix) ∷ []) (1 ∷ (vint d.keep ++ vint (length d.suffix))) ++ d.suffix) ++ rest) ≡ Some (d, rest)
    by_form true e =
        let parts = both-true (nat_lt d.keep 16) (nat_lt (length d.suffix) 16) e in
        let small : d.keep < 16 = ltb-true _ _ parts.0 in
        let short : length d.suffix < 16 = ltb-true _ _ parts.1 in
        with_suffix ((d.keep + 16 * length d.suffix) ∷ (d.suffix ++ rest)) d.keep d.suffix rest
        (ap (λ t. cond t (two_vints_at (d.suffix ++ rest)) (Some (((d.keep + 16 * length d.suffix) % 16, (d.keep + 16 * length d.suffix) / 16), d.suffix ++ rest))) (short_byte e)
        ∙ ap (λ k. Some ((k, (d.keep + 16 * length d.suffix) / 16), d.suffix ++ rest)) (omega arith)
        ∙ ap (λ a. Some ((d.keep, a), d.suffix ++ rest)) (omega arith))
    by_form false e = with_suffix _ d.keep d.suffix rest
        (ap two_vints_at (append_assoc (vint d.keep ++ vint (length d.suffix)) d.suffix rest ∙ append_assoc (vint d.keep) (vint (length d.suffix)) (d.suffix ++ rest)) ∙ two_vints-again d.keep (length d.suffix) (d.suffix ++ rest) fits.keep fits.add)

-- two keys have the bytes that they share
shared-take : (a b : Key) → take (shared a b) a ≡ take (shared a b) b
shared-take [] [] = refl
shared-take [] (y ∷ b) = refl
shared-take (x ∷ a) [] = refl
shared-take (x ∷ a) (y ∷ b) = by_test (nat_eq x y) refl (shared-take a b)
  where
    by_test : (same : Bool) → nat_eq x y ≡ same → take (shared a b) a ≡ take (shared a b) b → take (cond same (1 + shared a b) 0) (x ∷ a) ≡ take (cond same (1 + shared a b) 0) (y ∷ b)
    by_test true e front = rw (one-add (shared a b)) (ap (λ z. z ∷ take (shared a b) a) (eqb-true x y e) ∙ ap (λ zs. y ∷ zs) front)
    by_test false e front = refl

-- the key before and what a key adds make the key
pub key_after-between : (before key : Key) → key_after before (delta_between before key) ≡ key
key_after-between before key = ap (λ front. front ++ drop (shared before key) key) (shared-take before key) ∙ take-append-drop (shared before key) key

-- keys that rise are given by their deltas
pub keys_after-between : (before : Key) (keys : List Key) → is_rising (before ∷ keys) ≡ true → keys_after before (deltas_between before keys) ≡ Some keys
unfolding keys_after deltas_between is_rising
keys_after-between before [] rise = refl
keys_after-between before (key ∷ keys) rise =
    let parts = both-true (is_below before key) (is_rising (key ∷ keys)) rise in
    let d = delta_between before key in
    ap (λ (k : Key). provided (nat_eq d.keep (shared before k)) >>= (λ _. provided (is_below before k) >>= (λ _. keys_after k (deltas_between key keys) >>= (λ others. Some (k ∷ others))))) (key_after-between before key)
    ∙ ap (λ b. provided b >>= (λ _. provided (is_below before key) >>= (λ _. keys_after key (deltas_between key keys) >>= (λ others. Some (key ∷ others))))) (eq-eqb d.keep d.keep refl)
    ∙ ap (λ b. provided b >>= (λ _. keys_after key (deltas_between key keys) >>= (λ others. Some (key ∷ others)))) parts.0
    ∙ ap (λ o. o >>= (λ others. Some (key ∷ others))) (keys_after-between key keys parts.1)

-- a number takes a byte or more
groups_at-shrinks : (k : ℕ) (bytes : List ℕ) (n : ℕ) (rest : List ℕ) → groups_at k bytes ≡ Some (n, rest) → length rest < length bytes
unfolding groups_at
groups_at-shrinks zero bytes n rest e = absurd cc
groups_at-shrinks (suc k) [] n rest e = absurd cc
groups_at-shrinks (suc k) (b ∷ bytes) n rest e = by_test (nat_lt b 128) e (λ m left. groups_at-shrinks k bytes m left)
  where
    more : ℕ × List ℕ → Option (ℕ × List ℕ)
    more high = Some (b - 128 + 128 * high.0, high.1)

    by_test : (last : Bool) → cond last (Some (b, bytes)) (groups_at k bytes >>= more) ≡ Some (n, rest)
        → ((m : ℕ) (left : List ℕ) → groups_at k bytes ≡ Some (m, left) → length left < length bytes) → length rest < length (b ∷ bytes)
    by_test true e shorter =
        let same : (b, bytes) ≡ (n, rest) = some_is _ _ e in
        let rest_is : bytes ≡ rest = ap (λ (p : ℕ × List ℕ). p.1) same in
        omega (arith, ap length rest_is)
    by_test false e shorter =
        let step = bind_some (groups_at k bytes) more (n, rest) e in
        let same : more step.0 ≡ Some (n, rest) = step.2 in
        let pair : (b - 128 + 128 * step.0.0, step.0.1) ≡ (n, rest) = some_is _ _ same in
        let rest_is : step.0.1 ≡ rest = ap (λ (p : ℕ × List ℕ). p.1) pair in
        let less : length step.0.1 < length bytes = shorter step.0.0 step.0.1 step.1 in
        omega (arith, less, ap length rest_is)

vint_at-shrinks : (bytes : List ℕ) (found : ℕ × List ℕ) → vint_at bytes ≡ Some found → length found.1 < length bytes
unfolding vint_at
vint_at-shrinks bytes found e =
    let step = bind_some (groups_at 10 bytes) (λ n. provided (nat_lt n.0 (2 ^ 64)) >>= (λ _. Some n)) found e in
    let test = bind_some (provided (nat_lt step.0.0 (2 ^ 64))) (λ _. Some step.0) found step.2 in
    let same : step.0 ≡ found = some_is _ _ test.2 in
    let less : length step.0.1 < length bytes = groups_at-shrinks 10 bytes step.0.0 step.0.1 step.1 in
    let rest_is : step.0.1 ≡ found.1 = ap (λ (p : ℕ × List ℕ). p.1) same in
    omega (arith, less, ap length rest_is)

two_vints-shrink : (bytes : List ℕ) (found : (ℕ × ℕ) × List ℕ) → two_vints_at bytes ≡ Some found → length found.1 < length bytes
two_vints-shrink bytes found e =
    let first = bind_some (vint_at bytes) (λ first. vint_at first.1 >>= (λ second. Some ((first.0, second.0), second.1))) found e in
    let second = bind_some (vint_at first.0.1) (λ second. Some ((first.0.0, second.0), second.1)) found first.2 in
    let same : ((first.0.0, second.0.0), second.0.1) ≡ found = some_is _ _ second.2 in
    let rest_is : second.0.1 ≡ found.1 = ap (λ (p : (ℕ × ℕ) × List ℕ). p.1) same in
    omega (arith, vint_at-shrinks bytes first.0 first.1, vint_at-shrinks first.0.1 second.0 second.1, ap length rest_is)

keep_and_add-shrinks : (bytes : List ℕ) (found : (ℕ × ℕ) × List ℕ) → keep_and_add_at bytes ≡ Some found → length found.1 < length bytes
keep_and_add-shrinks [] found e = absurd cc
keep_and_add-shrinks (b ∷ bytes) found e = by_test (b == 1) e
  where
    by_test : (long : Bool) → cond long (two_vints_at bytes) (Some ((b % 16, b / 16), bytes)) ≡ Some found → length found.1 < length (b ∷ bytes)
    by_test true e = omega (arith, two_vints-shrink bytes found e)
    by_test false e =
        let same : ((b % 16, b / 16), bytes) ≡ found = some_is _ _ e in
        let rest_is : bytes ≡ found.1 = ap (λ (p : (ℕ × ℕ) × List ℕ). p.1) same in
        omega (arith, ap length rest_is)

delta-shrinks : (bytes : List ℕ) (found : Delta × List ℕ) → delta_at bytes ≡ Some found → length found.1 < length bytes
unfolding delta_at
delta-shrinks bytes found e =
    let lens = bind_some (keep_and_add_at bytes) (λ lens. bytes_at lens.0.1 lens.1 >>= (λ suffix. Some (record { keep = lens.0.0; suffix = suffix.0 }, suffix.1))) found e in
    let suffix = bind_some (bytes_at lens.0.0.1 lens.0.1) (λ suffix. Some (record { keep = lens.0.0.0; suffix = suffix.0 }, suffix.1)) found lens.2 in
    let same : (record { keep = lens.0.0.0; suffix = suffix.0.0 }, suffix.0.1) ≡ found = some_is _ _ suffix.2 in
    let rest_is : suffix.0.1 ≡ found.1 = ap (λ (p : Delta × List ℕ). p.1) same in
    omega (arith, keep_and_add-shrinks bytes lens.0 lens.1, bytes_at-shrinks lens.0.0.1 lens.0.1 suffix.0 suffix.1, ap length rest_is)

front_of_deltas-shrinks : (bytes rest : List ℕ) (x : Delta) → front_of_deltas bytes ≡ Piece x rest → length rest < length bytes
front_of_deltas-shrinks [] rest x e = absurd cc
front_of_deltas-shrinks (b ∷ bytes) rest x e = delta-shrinks (b ∷ bytes) (x, rest) (piece_is (delta_at (b ∷ bytes)) x rest e)

pub deltas-shrink : Shrinks front_of_deltas
deltas-shrink = record { shorter = front_of_deltas-shrinks }

delta-none : delta_at [] ≡ None
unfolding delta_at
delta-none = refl

delta-piece : (d : Delta) (rest : List ℕ) → Fits d → front_of_deltas (delta d ++ rest) ≡ Piece d rest
delta-piece d rest fits = as_piece (delta d ++ rest) (delta-again d rest fits)
  where
    as_piece : (bytes : List ℕ) → delta_at bytes ≡ Some (d, rest) → front_of_deltas bytes ≡ Piece d rest
    as_piece [] e = let none = delta-none in absurd cc
    as_piece (b ∷ bytes) e = ap piece_or_fault e

-- deltas that were written are read again, to the end of the bytes
pub deltas-again : (ds : List Delta) → AllByRecursion Fits ds → pieces front_of_deltas (flat_map delta ds) ≡ Some (ds, [])
deltas-again ds all =
    ap (pieces front_of_deltas) (sym (append-nil (flat_map delta ds)))
    ∙ pieces-spelled front_of_deltas deltas-shrink delta Fits delta-piece ds all []
    ∙ ap (with_front ds) (pieces-step front_of_deltas deltas-shrink [])
    ∙ ap (λ xs. Some (xs, [])) (append-nil ds)

abbrev as_delta : ℕ → List ℕ × List ℕ → Option (Delta × List ℕ)
as_delta keep found = Some (record { keep = keep; suffix = found.0 }, found.1)

abbrev cut_at : ℕ → List ℕ → Bool → Option (List ℕ × List ℕ)
cut_at n bytes there = provided there >>= (λ _. Some (take n bytes, drop n bytes))

pub delta-no_lens : (block : List ℕ) → keep_and_add_at block ≡ None → delta_at block ≡ None
unfolding delta_at
delta-no_lens block e = ap (λ o. o >>= (λ lens. bytes_at lens.0.1 lens.1 >>= (λ found. Some (record { keep = lens.0.0; suffix = found.0 }, found.1)))) e

-- where the suffix is cut
pub delta-cut : (block rest : List ℕ) (keep add : ℕ) → keep_and_add_at block ≡ Some ((keep, add), rest) → length rest < add → delta_at block ≡ None
unfolding delta_at
delta-cut block rest keep add e short =
    ap (λ o. o >>= (λ lens. bytes_at lens.0.1 lens.1 >>= (λ found. Some (record { keep = lens.0.0; suffix = found.0 }, found.1)))) e
    ∙ ap (λ b. cut_at add rest b >>= as_delta keep) (lt-leb add (length rest) short)

-- where it isn't
pub delta-taken : (block rest : List ℕ) (keep add : ℕ) → keep_and_add_at block ≡ Some ((keep, add), rest) → add ≤ length rest
    → delta_at block ≡ Some (record { keep = keep; suffix = take add rest }, drop add rest)
unfolding delta_at
delta-taken block rest keep add e long =
    ap (λ o. o >>= (λ lens. bytes_at lens.0.1 lens.1 >>= (λ found. Some (record { keep = lens.0.0; suffix = found.0 }, found.1)))) e
    ∙ ap (λ b. cut_at add rest b >>= as_delta keep) (le-leb add (length rest) long)
