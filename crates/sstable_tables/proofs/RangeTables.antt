-- How long a block of ranges is, and which range may come next.
use Rattle.std.proofs.Common.{◌≡◌, ℕ, zero, suc, ◌+◌, ◌-◌, ◌*◌, ◌/◌, ◌%◌, ◌≤◌, List, [], ◌∷◌, ◌++◌, length, drop, true, false, ◌&&◌, refl, ap, ◌∙◌, arith, length-append, length-drop}
use Rattle.std.specs.Prelude.{nat_lt, if◌then◌else◌}
use Rattle.std.specs.List.{flat_map}
use Rattle.std.specs.declared.ops.Range.{Range}
use Rattle.std.proofs.lemmas.Bool.{le-leb}
use Rattle.std.proofs.lemmas.List.{length-map}
use Rattle.owned_bytes.specs.Keys.{Key, shared}
unfoldable use Rattle.sstable_values.specs.Vint.{vint, groups}
use Rattle.sstable_blocks.specs.Delta.{Delta}
use Rattle.sstable_blocks.specs.Block.{delta, delta_between}
unfoldable use Rattle.sstable_blocks.specs.Block.{deltas_between}
use Rattle.sstable_values.specs.Codec.{bounds_of, rising_numbers}
unfoldable use Rattle.sstable_values.specs.Codec.{sums, range}
use Rattle.sstable_values.specs.Range.{ends_at}
use Rattle.sstable_blocks.specs.Writing.{keys_in}
use Rattle.sstable_tables.specs.Making.{Making, content_of}
use Rattle.sstable_tables.specs.Laws.{keys_size, values_in, ShortRangesFit, AdjoiningRangesAreTaken, LastRangeEnds}

groups-short : (k n : ℕ) → length (groups k n) ≤ k
unfolding groups
groups-short zero n = omega arith
groups-short (suc k) n = elim (nat_lt n 128) as (λ b. length (if b then n ∷ [] else (128 + n % 128) ∷ groups k (n / 128)) ≤ suc k) [
  | true ↦ omega arith
  | false ↦ omega (arith, groups-short k (n / 128))
]

vint-short : (n : ℕ) → length (vint n) ≤ 10
unfolding vint
vint-short n = groups-short 10 n

sums-short : (start : ℕ) (ns : List ℕ) → length (sums start ns) ≤ 10 * length ns
unfolding sums
sums-short start [] = omega arith
sums-short start (n ∷ ns) = omega (arith, length-append (vint (n - start)) (sums n ns), vint-short (n - start), sums-short n ns)

bounds-few : (ranges : List (Range ℕ)) → length (bounds_of ranges) ≤ length ranges + 1
bounds-few [] = omega arith
bounds-few (one ∷ ranges) = omega (arith, length-map (one ∷ ranges) (λ (r : Range ℕ). r.end))

numbers-short : (ns : List ℕ) → length (rising_numbers ns) ≤ 10 + 10 * length ns
numbers-short ns = omega (arith, length-append (vint (length ns)) (sums 0 ns), vint-short (length ns), sums-short 0 ns)

delta-short : (d : Delta) → length (delta d) ≤ 21 + length d.suffix
delta-short d = elim (nat_lt d.keep 16 && nat_lt (length d.suffix) 16) as (λ b. length ((if b then (d.keep + 16 * length d.suffix) ∷ [] else 1 ∷ (vint d.keep ++ vint (length d.suffix))) ++ d.suffix) ≤ 21 + length d.suffix) [
  | true ↦ omega arith
  | false ↦ omega (arith, length-append (1 ∷ (vint d.keep ++ vint (length d.suffix))) d.suffix, length-append (vint d.keep) (vint (length d.suffix)), vint-short d.keep, vint-short (length d.suffix))
]

deltas-short : {V : Type 0} (before : Key) (entries : List (Key × V)) → length (flat_map delta (deltas_between before (keys_in entries))) ≤ keys_size entries + 21 * length entries
unfolding deltas_between
deltas-short before [] = omega arith
deltas-short before (entry ∷ entries) =
    let one = delta-short (delta_between before entry.0) in
    let adds : length (drop (shared before entry.0) entry.0) ≡ length entry.0 - shared before entry.0 = length-drop (shared before entry.0) entry.0 in
    let others = deltas-short entry.0 entries in
    let whole = length-append (delta (delta_between before entry.0)) (flat_map delta (deltas_between entry.0 (keys_in entries))) in
    omega (arith, one, adds, others, whole)

content-short : {W : Type 0} (w : Making W (Range ℕ)) → length (content_of range w) ≤ 20 + 10 * length w.gathered + length (flat_map delta (deltas_between [] (keys_in w.gathered)))
unfolding range
content-short w =
    omega (
      arith,
      length-append (rising_numbers (bounds_of (values_in w.gathered))) (flat_map delta (deltas_between [] (keys_in w.gathered))),
      numbers-short (bounds_of (values_in w.gathered)),
      bounds-few (values_in w.gathered),
      length-map w.gathered (λ (entry : Key × Range ℕ). entry.1),
    )

pub short-fit : {W : Type 0} → ShortRangesFit W
short-fit w sink entries has short long =
    omega (
      arith,
      short,
      long.1,
      content-short w,
      ap length has.gathered,
      ap (λ es. length (flat_map delta (deltas_between [] (keys_in es)))) has.gathered,
      deltas-short [] entries,
    )

pub adjoining-taken : {W : Type 0} → AdjoiningRangesAreTaken W
unfolding range
adjoining-taken w sink entries next has ordered ends =
    ap (λ b. b && ends_at (values_in w.gathered) next.start) (le-leb next.start next.end ordered) ∙ ap (λ es. ends_at (values_in es) next.start) has.gathered ∙ ends

pub last-ends : LastRangeEnds
last-ends [] key last place = refl
last-ends (entry ∷ []) key last place = refl
last-ends (entry ∷ next ∷ entries) key last place = last-ends (next ∷ entries) key last place
