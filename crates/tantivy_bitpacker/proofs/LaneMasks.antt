-- Eight comparisons at once: the mask's bits are the tests of the eight values.
use Rattle.std.proofs.Common.{◌≡◌, ℕ, ◌+◌, ◌-◌, ◌/◌, ◌%◌, ◌^◌, ◌<◌, ◌≤◌, List, [], ◌∷◌, ◌++◌, length, get_or, map, replicate, Bool, true, false, cond, eqb, leb, refl, ap, ◌∙◌, arith, w32, Fits}
use Rattle.std.proofs.lemmas.List.{length-map}
use Rattle.std.proofs.lemmas.Simd.{bitmask_splat, zip2_splat, length-chunk, chunk-fits, map-map, bit_mask_l, mask_l-lt}
use Rattle.std.proofs.lemmas.Nat.{shr-shr}
use Rattle.std.proofs.lemmas.Bool.Decides.{nat_tests}
use Rattle.std.specs.Int.{is_in_range}
use lib.Lanes.{zip2, mask_l, top, Each1, chunk}
use Rattle.tantivy_bitpacker.specs.Lanes.{four_bits}
use Rattle.tantivy_bitpacker.proofs.Powers.{field_within}

-- a value's distance above the low bound wraps below it
one_test : (x low span : ℕ) → x < 2 ^ 32 → low + span < 2 ^ 32 → leb ((x + (2 ^ 32 - low)) % 2 ^ 32) span ≡ is_in_range low (low + span) x
one_test x low span small fits = grind (arith, nat_tests)

each_test : (xs : List ℕ) (low span : ℕ) → Each1 (Fits w32) xs → low + span < 2 ^ 32 → map (λ x. leb ((x + (2 ^ 32 - low)) % 2 ^ 32) span) xs ≡ map (is_in_range low (low + span)) xs
each_test [] low span each fits = refl
each_test (x ∷ xs) low span each fits =
    ap (λ b. b ∷ map (λ y. leb ((y + (2 ^ 32 - low)) % 2 ^ 32) span) xs) (one_test x low span each.0.fits fits) ∙ ap (λ bs. is_in_range low (low + span) x ∷ bs) (each_test xs low span each.1 fits)

pub mask_within_is : (xs : List ℕ) (at low span : ℕ) → ((k : ℕ) → Fits w32 (get_or xs k 0)) → at + 8 ≤ length xs → low + span < 2 ^ 32
    → mask_l (map (top 31) (zip2 (λ a b. cond (leb a b) (2 ^ 32 - 1) 0) (zip2 (λ a b. (a + (2 ^ 32 - b)) % 2 ^ 32) (chunk at 8 xs) (replicate 8 low)) (replicate 8 span))) % 2 ^ 64
    ≡ mask_l (map (is_in_range low (low + span)) (chunk at 8 xs))
mask_within_is xs at low span each room fits =
    let long : length (chunk at 8 xs) ≡ 8 = length-chunk at 8 xs room in
    let distance : zip2 (λ a b. (a + (2 ^ 32 - b)) % 2 ^ 32) (chunk at 8 xs) (replicate 8 low) ≡ map (λ x. (x + (2 ^ 32 - low)) % 2 ^ 32) (chunk at 8 xs) = zip2_splat (λ a b. (a + (2 ^ 32 - b)) % 2 ^ 32) (chunk at 8 xs) 8 low long in
    let mapped : length (map (λ x. (x + (2 ^ 32 - low)) % 2 ^ 32) (chunk at 8 xs)) ≡ 8 = length-map (chunk at 8 xs) (λ x. (x + (2 ^ 32 - low)) % 2 ^ 32) ∙ long in
    ap (λ ys. mask_l (map (top 31) (zip2 (λ a b. cond (leb a b) (2 ^ 32 - 1) 0) ys (replicate 8 span))) % 2 ^ 64) distance
    ∙ bitmask_splat w32 leb (map (λ x. (x + (2 ^ 32 - low)) % 2 ^ 32) (chunk at 8 xs)) 8 span mapped (omega arith)
    ∙ ap mask_l (map-map (λ x. leb x span) (λ x. (x + (2 ^ 32 - low)) % 2 ^ 32) (chunk at 8 xs) ∙ each_test (chunk at 8 xs) low span (chunk-fits w32 at 8 xs each) fits)

-- ---- the two halves of a mask of eight

test_is : (b : Bool) (n : ℕ) → n ≡ cond b 1 0 → eqb n 1 ≡ b
test_is true n e = ap (λ m. eqb m 1) e
test_is false n e = ap (λ m. eqb m 1) e

low_bit : (tests : List Bool) (i : ℕ) → i < 4 → eqb (mask_l tests % 16 / 2 ^ i % 2) 1 ≡ get_or tests i false
low_bit tests i below = test_is (get_or tests i false) (mask_l tests % 16 / 2 ^ i % 2) (field_within (mask_l tests) 4 i 1 (omega arith) ∙ bit_mask_l tests i)

high_bit : (tests : List Bool) (i : ℕ) → eqb (mask_l tests / 16 / 2 ^ i % 2) 1 ≡ get_or tests (4 + i) false
high_bit tests i = test_is (get_or tests (4 + i) false) (mask_l tests / 16 / 2 ^ i % 2) (ap (λ m. m % 2) (shr-shr (mask_l tests) 4 i) ∙ bit_mask_l tests (4 + i))

four_same : (a b c d e f g h : Bool) → a ≡ e → b ≡ f → c ≡ g → d ≡ h → a ∷ b ∷ c ∷ d ∷ [] ≡ e ∷ f ∷ g ∷ h ∷ []
four_same a b c d e f g h p q r s = cc

pub four_bits-low : (tests : List Bool) → four_bits (mask_l tests % 16) ≡ get_or tests 0 false ∷ get_or tests 1 false ∷ get_or tests 2 false ∷ get_or tests 3 false ∷ []
four_bits-low tests = four_same _ _ _ _ _ _ _ _ (ap (λ n. eqb (n % 2) 1) (omega arith) ∙ low_bit tests 0 (omega arith)) (low_bit tests 1 (omega arith)) (low_bit tests 2 (omega arith)) (low_bit tests 3 (omega arith))

pub four_bits-high : (tests : List Bool) → four_bits (mask_l tests / 16) ≡ get_or tests 4 false ∷ get_or tests 5 false ∷ get_or tests 6 false ∷ get_or tests 7 false ∷ []
four_bits-high tests = four_same _ _ _ _ _ _ _ _ (ap (λ n. eqb (n % 2) 1) (omega arith) ∙ high_bit tests 0) (high_bit tests 1) (high_bit tests 2) (high_bit tests 3)

-- eight tests are the two halves
pub eight_tests : (tests : List Bool) → length tests ≡ 8 → four_bits (mask_l tests % 16) ++ four_bits (mask_l tests / 16) ≡ tests
eight_tests tests long =
    ap (λ bs. bs ++ four_bits (mask_l tests / 16)) (four_bits-low tests)
    ∙ ap (λ bs. get_or tests 0 false ∷ get_or tests 1 false ∷ get_or tests 2 false ∷ get_or tests 3 false ∷ bs) (four_bits-high tests) ∙ spelled tests long
  where
    spelled : (ts : List Bool) → length ts ≡ 8 → get_or ts 0 false ∷ get_or ts 1 false ∷ get_or ts 2 false ∷ get_or ts 3 false ∷ get_or ts 4 false ∷ get_or ts 5 false ∷ get_or ts 6 false ∷ get_or ts 7 false ∷ [] ≡ ts
    spelled (a ∷ b ∷ c ∷ d ∷ e ∷ f ∷ g ∷ h ∷ []) e8 = refl
    spelled ts e8 = absurd (omega arith)

pub mask_within_lt : (test : ℕ → Bool) (xs : List ℕ) (at : ℕ) → at + 8 ≤ length xs → mask_l (map test (chunk at 8 xs)) < 2 ^ 8
mask_within_lt test xs at room = let long : length (map test (chunk at 8 xs)) ≡ 8 = length-map (chunk at 8 xs) test ∙ length-chunk at 8 xs room in rw long at (mask_l-lt (map test (chunk at 8 xs)))
