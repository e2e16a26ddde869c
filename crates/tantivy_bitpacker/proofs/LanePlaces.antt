-- The places of the set bits of a mask, written four at a time from a table.
use Rattle.std.proofs.Common.{◌≡◌, ℕ, zero, suc, ◌+◌, ◌-◌, ◌/◌, ◌%◌, ◌^◌, ◌<◌, ◌≤◌, List, [], ◌∷◌, ◌++◌, length, take, drop, get_or, map, replicate, Bool, true, false, cond, ltb, ◌&&◌, refl, ap, sym, ◌∙◌, subst, arith, append_assoc, length-take-le, take-append-drop}
use Rattle.std.proofs.lemmas.List.{length-map, drop_at, take-map, drop-drop, take-append-le}
use Rattle.std.proofs.lemmas.Simd.{put_chunk_is, zip2_splat, length-chunk}
use Rattle.std.proofs.lemmas.Bool.{ltb-true}
use Rattle.std.proofs.Math.Seq.{take-append-add, drop-append-add}
use Rattle.std.proofs.Math.Nat.{mod-eq_of_lt}
use Rattle.std.specs.Int.{is_in_range}
use lib.Lanes.{zip2, mask_l, chunk, put_chunk, all_below}
use Rattle.tantivy_bitpacker.specs.declared.filter_vec.TheConstants.{PLACES, COUNTS}
use Rattle.tantivy_bitpacker.specs.Within.{places_within, Filtering}
use Rattle.tantivy_bitpacker.specs.Lanes.{set_places, four_bits, PutsPlaces}
use Rattle.tantivy_bitpacker.proofs.Places.{places_within-append}
use Rattle.tantivy_bitpacker.proofs.LaneMasks.{eight_tests}

pub set_places-append : (place : ℕ) (xs ys : List Bool) → set_places place (xs ++ ys) ≡ set_places place xs ++ set_places (place + length xs) ys
unfolding set_places
set_places-append place [] ys = ap (λ p. set_places p ys) (omega arith)
set_places-append place (true ∷ xs) ys = ap (λ ps. place ∷ ps) (set_places-append (place + 1) xs ys ∙ ap (λ p. set_places (place + 1) xs ++ set_places p ys) (omega arith))
set_places-append place (false ∷ xs) ys = set_places-append (place + 1) xs ys ∙ ap (λ p. set_places (place + 1) xs ++ set_places p ys) (omega arith)

pub set_places-length : (place : ℕ) (tests : List Bool) → length (set_places place tests) ≤ length tests
unfolding set_places
set_places-length place [] = omega arith
set_places-length place (true ∷ tests) = omega (arith, set_places-length (place + 1) tests)
set_places-length place (false ∷ tests) = omega (arith, set_places-length (place + 1) tests)

-- as many, wherever they are counted from
pub set_places-length_same : (a b : ℕ) (tests : List Bool) → length (set_places b tests) ≡ length (set_places a tests)
unfolding set_places
set_places-length_same a b [] = refl
set_places-length_same a b (true ∷ tests) = ap suc (set_places-length_same (a + 1) (b + 1) tests)
set_places-length_same a b (false ∷ tests) = set_places-length_same (a + 1) (b + 1) tests

-- places counted from further on
set_places-shift : (from by : ℕ) (tests : List Bool) → map (λ p. p + by) (set_places from tests) ≡ set_places (from + by) tests
unfolding set_places
set_places-shift from by [] = refl
set_places-shift from by (true ∷ tests) = ap (λ ps. (from + by) ∷ ps) (set_places-shift (from + 1) by tests ∙ ap (λ p. set_places p tests) (omega arith))
set_places-shift from by (false ∷ tests) = set_places-shift (from + 1) by tests ∙ ap (λ p. set_places p tests) (omega arith)

-- the places of the values within bounds are those of the tests that are true
pub set_places-within : (low high place : ℕ) (xs : List ℕ) → set_places place (map (is_in_range low high) xs) ≡ places_within low high place xs
unfolding set_places places_within
set_places-within low high place [] = refl
set_places-within low high place (x ∷ xs) = ap (λ ps. cond (is_in_range low high x) (place ∷ ps) ps) (set_places-within low high (place + 1) xs)

-- ---- the table

record IsRow (bits : ℕ) (row : List ℕ) (count : ℕ) : Type 0 where
  long : length row ≡ 4
  front : take count row ≡ set_places 0 (four_bits bits)
  counted : count ≡ length (set_places 0 (four_bits bits))
  small : all_below 4 row ≡ true

table_row : (bits : ℕ) → bits < 16 → IsRow bits (get_or PLACES bits []) (get_or COUNTS bits 0)
unfolding set_places
table_row zero below = record { long = refl; front = refl; counted = refl; small = refl }
table_row (suc zero) below = record { long = refl; front = refl; counted = refl; small = refl }
table_row (suc (suc zero)) below = record { long = refl; front = refl; counted = refl; small = refl }
table_row (suc (suc (suc zero))) below = record { long = refl; front = refl; counted = refl; small = refl }
table_row (suc (suc (suc (suc zero)))) below = record { long = refl; front = refl; counted = refl; small = refl }
table_row (suc (suc (suc (suc (suc zero))))) below = record { long = refl; front = refl; counted = refl; small = refl }
table_row (suc (suc (suc (suc (suc (suc zero)))))) below = record { long = refl; front = refl; counted = refl; small = refl }
table_row (suc (suc (suc (suc (suc (suc (suc zero))))))) below = record { long = refl; front = refl; counted = refl; small = refl }
table_row (suc (suc (suc (suc (suc (suc (suc (suc zero)))))))) below = record { long = refl; front = refl; counted = refl; small = refl }
table_row (suc (suc (suc (suc (suc (suc (suc (suc (suc zero))))))))) below = record { long = refl; front = refl; counted = refl; small = refl }
table_row (suc (suc (suc (suc (suc (suc (suc (suc (suc (suc zero)))))))))) below = record { long = refl; front = refl; counted = refl; small = refl }
table_row (suc (suc (suc (suc (suc (suc (suc (suc (suc (suc (suc zero))))))))))) below = record { long = refl; front = refl; counted = refl; small = refl }
table_row (suc (suc (suc (suc (suc (suc (suc (suc (suc (suc (suc (suc zero)))))))))))) below = record { long = refl; front = refl; counted = refl; small = refl }
table_row (suc (suc (suc (suc (suc (suc (suc (suc (suc (suc (suc (suc (suc zero))))))))))))) below = record { long = refl; front = refl; counted = refl; small = refl }
table_row (suc (suc (suc (suc (suc (suc (suc (suc (suc (suc (suc (suc (suc (suc zero)))))))))))))) below = record { long = refl; front = refl; counted = refl; small = refl }
table_row (suc (suc (suc (suc (suc (suc (suc (suc (suc (suc (suc (suc (suc (suc (suc zero))))))))))))))) below = record { long = refl; front = refl; counted = refl; small = refl }
table_row (suc (suc (suc (suc (suc (suc (suc (suc (suc (suc (suc (suc (suc (suc (suc (suc n)))))))))))))))) below = absurd (omega arith)

-- the row's places, counted from `place`
row_shifted : (place : ℕ) (row : List ℕ) → all_below 4 row ≡ true → place + 4 ≤ 2 ^ 32 → map (λ x. (x + place) % 2 ^ 32) row ≡ map (λ x. x + place) row
row_shifted place [] small fits = refl
row_shifted place (x ∷ row) small fits =
    let parts : (ltb x 4 ≡ true) × (all_below 4 row ≡ true) = both_true (ltb x 4) (all_below 4 row) small in
    let below : x < 4 = ltb-true x 4 parts.0 in
    ap (λ v. v ∷ map (λ y. (y + place) % 2 ^ 32) row) (mod-eq_of_lt (omega arith)) ∙ ap (λ vs. (x + place) ∷ vs) (row_shifted place row parts.1 fits)
  where
    both_true : (a b : Bool) → (a && b) ≡ true → (a ≡ true) × (b ≡ true)
    both_true true b e = (refl, e)
    both_true false b e = cc

PutsPlaces-row : (bits place kept count : ℕ) (row old : List ℕ) → IsRow bits row count → kept + 4 ≤ length old → place + 4 ≤ 2 ^ 32
    → PutsPlaces bits place kept old (put_chunk kept old (zip2 (λ a b. (a + b) % 2 ^ 32) row (replicate 4 place))) (kept + count)
PutsPlaces-row bits place kept count row old r room fits =
    let written : List ℕ = map (λ x. x + place) row in
    let lanes : zip2 (λ a b. (a + b) % 2 ^ 32) row (replicate 4 place) ≡ written = zip2_splat (λ a b. (a + b) % 2 ^ 32) row 4 place r.long ∙ row_shifted place row r.small fits in
    let long : length written ≡ 4 = length-map row (λ x. x + place) ∙ r.long in
    let few : count ≤ 4 = omega (arith, r.counted, set_places-length 0 (four_bits bits)) in
    let front : length (take kept old) ≡ kept = length-take-le kept old (omega arith) in
    let tail : List ℕ = drop 4 (drop kept old) in
    let whole : put_chunk kept old written ≡ take kept old ++ (written ++ tail) = put_chunk_is kept old written (omega arith) ∙ ap (λ n. take kept old ++ (written ++ drop n (drop kept old))) long in
    let places : take count written ≡ set_places place (four_bits bits) = take-map (λ x. x + place) count row ∙ ap (map (λ x. x + place)) r.front ∙ set_places-shift 0 place (four_bits bits) ∙ ap (λ p. set_places p (four_bits bits)) (omega arith) in
    let same : put_chunk kept old (zip2 (λ a b. (a + b) % 2 ^ 32) row (replicate 4 place)) ≡ take kept old ++ (written ++ tail) = ap (put_chunk kept old) lanes ∙ whole in
    subst (λ new. PutsPlaces bits place kept old new (kept + count)) (sym same) (record {
      front = ap (λ n. take (n + count) (take kept old ++ (written ++ tail))) (sym front) ∙ take-append-add (take kept old) (written ++ tail) count
          ∙ ap (λ l. take kept old ++ l) (take-append-le count written tail (omega arith) ∙ places);
      count = ap (λ n. kept + n) (r.counted ∙ sym (set_places-length_same 0 place (four_bits bits)));
      rest = ap (λ n. drop (n + 4) (take kept old ++ (written ++ tail))) (sym front) ∙ drop-append-add (take kept old) (written ++ tail) 4 ∙ drop_at written tail 4 long ∙ drop-drop 4 kept old;
    })

pub PutsPlaces-holds : (bits place kept : ℕ) (old : List ℕ) → bits < 16 → kept + 4 ≤ length old → place + 4 ≤ 2 ^ 32
    → PutsPlaces bits place kept old (put_chunk kept old (zip2 (λ a b. (a + b) % 2 ^ 32) (get_or PLACES bits []) (replicate 4 place))) (kept + get_or COUNTS bits 0)
PutsPlaces-holds bits place kept old four room fits = PutsPlaces-row bits place kept (get_or COUNTS bits 0) (get_or PLACES bits []) old (table_row bits four) room fits

-- ---- eight values of a filter in place

drop_later : (n m : ℕ) (xs ys : List ℕ) → n ≤ m → drop n xs ≡ drop n ys → drop m xs ≡ drop m ys
drop_later n m xs ys le e = let split : m ≡ n + (m - n) = omega arith in ap (λ k. drop k xs) split ∙ sym (drop-drop (m - n) n xs) ∙ ap (drop (m - n)) e ∙ drop-drop (m - n) n ys ∙ ap (λ k. drop k ys) (sym split)

-- the eight values from a place on
take_eight : (at : ℕ) (xs : List ℕ) → at + 8 ≤ length xs → take (at + 8) xs ≡ take at xs ++ chunk at 8 xs
take_eight at xs room =
    let front : length (take at xs) ≡ at = length-take-le at xs (omega arith) in
    ap (take (at + 8)) (sym (take-append-drop at xs)) ∙ ap (λ n. take (n + 8) (take at xs ++ drop at xs)) (sym front) ∙ take-append-add (take at xs) (drop at xs) 8

pub Filtering-eight : (low high offset at kept mid end mask : ℕ) (xs ys zs ws : List ℕ) → Filtering low high offset xs ys kept at → at + 8 ≤ length ys
    → mask ≡ mask_l (map (is_in_range low high) (chunk at 8 ys))
    → PutsPlaces (mask % 16) (offset + at) kept ys zs mid → PutsPlaces (mask / 16) (offset + at + 4) mid zs ws end → length ws ≡ length ys
    → Filtering low high offset xs ws end (at + 8)
Filtering-eight low high offset at kept mid end mask xs ys zs ws f room is first second long =
    let tests : List Bool = map (is_in_range low high) (chunk at 8 xs) in
    let inside : at + 8 ≤ length xs = omega (arith, f.long) in
    let same : chunk at 8 ys ≡ chunk at 8 xs = ap (take 8) f.rest in
    let mask_is : mask ≡ mask_l tests = is ∙ ap (λ l. mask_l (map (is_in_range low high) l)) same in
    let eight : length tests ≡ 8 = length-map (chunk at 8 xs) (is_in_range low high) ∙ length-chunk at 8 xs inside in
    let low_half : List Bool = four_bits (mask % 16) in
    let high_half : List Bool = four_bits (mask / 16) in
    let halves : low_half ++ high_half ≡ tests = ap (λ m. four_bits (m % 16) ++ four_bits (m / 16)) mask_is ∙ eight_tests tests eight in
    let places : set_places (offset + at) low_half ++ set_places (offset + at + 4) high_half ≡ places_within low high (offset + at) (chunk at 8 xs) =
    sym (set_places-append (offset + at) low_half high_half) ∙ ap (set_places (offset + at)) halves ∙ set_places-within low high (offset + at) (chunk at 8 xs) in
    let front : length (take at xs) ≡ at = length-take-le at xs (omega arith) in
    let mid_small : mid ≤ kept + 4 = omega (arith, first.count, set_places-length (offset + at) low_half) in
    record {
      front = second.front ∙ ap (λ l. l ++ set_places (offset + at + 4) high_half) (first.front ∙ ap (λ l. l ++ set_places (offset + at) low_half) f.front)
          ∙ append_assoc (places_within low high offset (take at xs)) (set_places (offset + at) low_half) (set_places (offset + at + 4) high_half)
          ∙ ap (λ l. places_within low high offset (take at xs) ++ l) places
          ∙ ap (λ n. places_within low high offset (take at xs) ++ places_within low high (offset + n) (chunk at 8 xs)) (sym front)
          ∙ sym (places_within-append low high offset (take at xs) (chunk at 8 xs)) ∙ ap (places_within low high offset) (sym (take_eight at xs inside));
      rest = drop_later (mid + 4) (at + 8) ws zs (omega (arith, f.behind)) second.rest ∙ drop_later (kept + 4) (at + 8) zs ys (omega (arith, f.behind)) first.rest ∙ drop_later at (at + 8) ys xs (omega arith) f.rest;
      behind = omega (arith, f.behind, second.count, set_places-length (offset + at + 4) high_half);
      long = long ∙ f.long;
    }
