-- The steps of an iterator over words. A reader of contracts may skip this file.
use Rattle.std.proofs.Common.{◌≡◌, ℕ, ◌+◌, ◌-◌, ◌*◌, ◌/◌, ◌%◌, ◌<◌, ◌≤◌, [], ◌∷◌, ◌++◌, map, filter, sym, ap, ◌∙◌, arith, add-zero}
use Rattle.std.specs.List.{range_with_len}
use Rattle.std.specs.Int.{div_ceil}
use Rattle.std.specs.FinSet.{empty, remove, contains}
use Rattle.common_bitset.specs.Numbers.{Numbers, IsLeast, rising}
use Rattle.common_bitset.specs.Subset.{is_in, gathered, AreWords}
use Rattle.common_bitset.specs.Iterated.{elements_from, placed_at, elements_left}
use Rattle.common_bitset.specs.Laws.Ranges.{filter_same, filter_parts, filter_moved}
use Rattle.common_bitset.specs.Laws.Sets.{rising_empty, rising_first, rising_of_where}
use Rattle.common_bitset.specs.Laws.Gathered.{beyond}

pub placed_at-empty : (base : ℕ) → placed_at base empty ≡ []
unfolding placed_at
placed_at-empty base = ap (map (λ i. base + i)) (rising_empty 64)

pub placed_at-first : (base m : ℕ) (s : Numbers) → m < 64 → IsLeast m s → placed_at base s ≡ (base + m) ∷ placed_at base (remove s m)
unfolding placed_at
placed_at-first base m s within least = ap (map (λ i. base + i)) (rising_first 64 m s within least)

pub elements_from-end : (word : ℕ → Numbers) (count k : ℕ) → count ≤ k → elements_from word count k ≡ []
unfolding elements_from
elements_from-end word count k h = let none : 64 * (count - k) ≡ 0 = omega arith in ap (λ n. filter (is_in word) (range_with_len (64 * k) n)) none

place : (k i : ℕ) → i < 64 → (64 * k + i) / 64 ≡ k
place k i h = omega arith

rest : (k i : ℕ) → i < 64 → (64 * k + i) % 64 ≡ i
rest k i h = omega arith

-- the next word's elements come first
pub elements_from-more : (word : ℕ → Numbers) (count k : ℕ) → k < count → elements_from word count k ≡ placed_at (64 * k) (word k) ++ elements_from word count (k + 1)
unfolding elements_from placed_at rising
elements_from-more word count k h =
    let whole : 64 * (count - k) ≡ 64 + 64 * (count - (k + 1)) = omega arith in
    let after : 64 * k + 64 ≡ 64 * (k + 1) = omega arith in
    let p = is_in word in
    ap (λ n. filter p (range_with_len (64 * k) n)) whole ∙ filter_parts p (64 * k) 64 (64 * (count - (k + 1)))
    ∙ (λ i. (ap (λ a. filter p (range_with_len a 64)) (sym (add-zero (64 * k))) ∙ filter_moved p (64 * k) 0 64
    ∙ ap (map (λ i. 64 * k + i)) (filter_same (λ i. p (64 * k + i)) (contains (word k)) 0 64 (λ i from until. (λ j. contains (word (place k i until j)) (rest k i until j))))) i
    ++ filter p (range_with_len (after i) (64 * (count - (k + 1)))))

-- all elements
pub elements_from-all : (word : ℕ → Numbers) (count max : ℕ) → count ≡ div_ceil max 64 → AreWords max word → elements_from word count 0 ≡ rising max (gathered max word)
unfolding elements_from gathered
elements_from-all word count max enough are =
    let n : count - 0 ≡ div_ceil max 64 = omega (arith, enough) in
    ap (λ m. filter (is_in word) (range_with_len 0 (64 * m))) n ∙ beyond max (div_ceil max 64) word are (omega arith) ∙ sym (rising_of_where max (is_in word))

pub elements_left-end : (word : ℕ → Numbers) (count next : ℕ) (current : Numbers) → current ≡ empty → count ≤ next → elements_left word count next current ≡ []
elements_left-end word count next current none h =
    (λ i. placed_at (64 * (next - 1)) (none i) ++ elements_from-end word count next h i) ∙ ap (λ xs. xs ++ []) (placed_at-empty (64 * (next - 1)))

pub elements_left-load : (word : ℕ → Numbers) (count next : ℕ) (current w : Numbers) → current ≡ empty → next < count → w ≡ word next → elements_left word count (next + 1) w ≡ elements_left word count next current
elements_left-load word count next current w none h is =
    let back : next + 1 - 1 ≡ next = omega arith in
    (λ i. placed_at (64 * back i) (is i) ++ elements_from word count (next + 1)) ∙ sym (elements_from-more word count next h)
    ∙ ap (λ xs. xs ++ elements_from word count next) (sym (placed_at-empty (64 * (next - 1)))) ∙ ap (λ s. placed_at (64 * (next - 1)) s ++ elements_from word count next) (sym none)

pub elements_left-pop : (word : ℕ → Numbers) (count next lowest base : ℕ) (current new : Numbers) → base ≡ next - 1 → lowest < 64 → IsLeast lowest current → new ≡ remove current lowest
    → elements_left word count next current ≡ (64 * base + lowest) ∷ elements_left word count next new
elements_left-pop word count next lowest base current new at within least is =
    ap (λ xs. xs ++ elements_from word count next) (placed_at-first (64 * (next - 1)) lowest current within least)
    ∙ (λ i. (64 * sym at i + lowest) ∷ (placed_at (64 * (next - 1)) (sym is i) ++ elements_from word count next))
