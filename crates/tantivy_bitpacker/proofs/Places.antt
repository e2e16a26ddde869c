-- Laws of the places of the numbers within two bounds.
use Rattle.std.proofs.Common.{◌≡◌, ℕ, suc, ◌+◌, ◌-◌, ◌*◌, ◌^◌, ◌<◌, ◌≤◌, min, List, [], ◌∷◌, ◌++◌, length, take, drop, get_or, set, cond, Bool, true, false, refl, ap, sym, ◌∙◌, arith, append_assoc, append-nil, length-set, zero}
use Rattle.std.proofs.lemmas.List.{take_more, take_more_set, take-set-le, drop-set-lt, get_or-drop, length-take-le, take_all, drop_all}
use Rattle.std.proofs.lemmas.Grind.{drop_more_same}
use mir.Val.{bool_byte}
use Rattle.std.proofs.lemmas.Bool.Decides.{nat_tests}
use Rattle.std.specs.Int.{is_in_range}
use Rattle.tantivy_bitpacker.specs.Within.{places_within, ids_within, Filtering}
use Rattle.tantivy_bitpacker.specs.Packed.{bits_from, unpacked_from}
use Rattle.tantivy_bitpacker.proofs.Unpacking.{unpacked_from-step, unpacked_from-none, unpacked_from-add, length-unpacked_from, bits_from-fits}

pub places_within-append : (low high place : ℕ) (xs ys : List ℕ) → places_within low high place (xs ++ ys) ≡ places_within low high place xs ++ places_within low high (place + length xs) ys
unfolding places_within
places_within-append low high place [] ys = ap (λ p. places_within low high p ys) (omega arith)
places_within-append low high place (x ∷ xs) ys =
    let next : places_within low high (place + 1) (xs ++ ys) ≡ places_within low high (place + 1) xs ++ places_within low high (place + suc (length xs)) ys =
    places_within-append low high (place + 1) xs ys ∙ ap (λ p. places_within low high (place + 1) xs ++ places_within low high p ys) (omega arith) in
    by (is_in_range low high x) next
  where
    by : (b : Bool) → places_within low high (place + 1) (xs ++ ys) ≡ places_within low high (place + 1) xs ++ places_within low high (place + suc (length xs)) ys
        → cond b (place ∷ places_within low high (place + 1) (xs ++ ys)) (places_within low high (place + 1) (xs ++ ys))
        ≡ cond b (place ∷ places_within low high (place + 1) xs) (places_within low high (place + 1) xs) ++ places_within low high (place + suc (length xs)) ys
    by true e = ap (λ ps. place ∷ ps) e
    by false e = e

-- the place of one value, if it is within the bounds
abbrev pub place_if : Bool → ℕ → List ℕ
place_if within place = cond within (place ∷ []) []

pub place_if-yes : (found : List ℕ) (within : Bool) (place : ℕ) → within ≡ true → found ++ place ∷ [] ≡ found ++ place_if within place
place_if-yes found within place e = ap (λ b. found ++ place_if b place) (sym e)

pub place_if-no : (found : List ℕ) (within : Bool) (place : ℕ) → within ≡ false → found ≡ found ++ place_if within place
place_if-no found within place e = sym (append-nil found) ∙ ap (λ b. found ++ place_if b place) (sym e)

places_within-one : (low high place x : ℕ) → places_within low high place (x ∷ []) ≡ place_if (is_in_range low high x) place
unfolding places_within
places_within-one low high place x = refl

-- the first value, and the others
pub places_within-step : (low high place x : ℕ) (xs : List ℕ) → places_within low high place (x ∷ xs) ≡ place_if (is_in_range low high x) place ++ places_within low high (place + 1) xs
unfolding places_within
places_within-step low high place x xs = by (is_in_range low high x)
  where
    by : (b : Bool) → cond b (place ∷ places_within low high (place + 1) xs) (places_within low high (place + 1) xs) ≡ cond b (place ∷ []) [] ++ places_within low high (place + 1) xs
    by true = refl
    by false = refl

-- bounds in the wrong order hold no value
pub places_within-reversed : (low high place : ℕ) (xs : List ℕ) → high < low → places_within low high place xs ≡ []
unfolding places_within
places_within-reversed low high place [] reversed = refl
places_within-reversed low high place (x ∷ xs) reversed =
    let outside : is_in_range low high x ≡ false = grind (arith, nat_tests) in
    ap (λ b. cond b (place ∷ places_within low high (place + 1) xs) (places_within low high (place + 1) xs)) outside ∙ places_within-reversed low high (place + 1) xs reversed

-- one more value
pub places_within-more : (low high place : ℕ) (xs : List ℕ) (i : ℕ) → i < length xs → places_within low high place (take (i + 1) xs) ≡ places_within low high place (take i xs) ++ place_if (is_in_range low high (get_or xs i 0)) (place + i)
places_within-more low high place xs i below =
    ap (places_within low high place) (take_more xs i 0 below) ∙ places_within-append low high place (take i xs) (get_or xs i 0 ∷ [])
    ∙ ap (λ p. places_within low high place (take i xs) ++ places_within low high (place + p) (get_or xs i 0 ∷ [])) (length-take-le i xs (omega arith))
    ∙ ap (λ ps. places_within low high place (take i xs) ++ ps) (places_within-one low high (place + i) (get_or xs i 0))

-- ---- a filter in place

pub Filtering-begin : (low high offset : ℕ) (xs : List ℕ) → Filtering low high offset xs xs 0 0
unfolding places_within
Filtering-begin low high offset xs = record { front = refl; rest = refl; behind = omega arith; long = refl }

-- a test as a number
pub bool_byte_is : (b : Bool) → bool_byte b ≡ cond b 1 0
bool_byte_is true = refl
bool_byte_is false = refl

pub bool_byte_le : (b : Bool) → bool_byte b ≤ 1
bool_byte_le true = omega arith
bool_byte_le false = omega arith

front_more : (b : Bool) (ys ps : List ℕ) (kept place : ℕ) → kept < length ys → take kept ys ≡ ps → take (kept + cond b 1 0) (set ys kept place) ≡ ps ++ place_if b place
front_more true ys ps kept place below is = take_more_set ys kept place below ∙ ap (λ l. l ++ place ∷ []) is
front_more false ys ps kept place below is =
    ap (λ n. take n (set ys kept place)) (omega arith) ∙ take-set-le kept ys kept place (omega arith) ∙ is ∙ sym (append-nil ps)

pub Filtering-more : (low high offset : ℕ) (xs ys : List ℕ) (kept i value next : ℕ) → Filtering low high offset xs ys kept i → i < length ys → value ≡ get_or ys i 0
    → next ≡ kept + cond (is_in_range low high value) 1 0 → Filtering low high offset xs (set ys kept (offset + i)) next (i + 1)
Filtering-more low high offset xs ys kept i value next f below is adds =
    let same : get_or ys i 0 ≡ get_or xs i 0 = ap (λ k. get_or ys k 0) (omega arith) ∙ sym (get_or-drop i ys 0 0) ∙ ap (λ l. get_or l 0 0) f.rest ∙ get_or-drop i xs 0 0 ∙ ap (λ k. get_or xs k 0) (omega arith) in
    let inside : i < length xs = omega (arith, f.long) in
    let count : cond (is_in_range low high value) 1 0 ≤ 1 = at_most_one (is_in_range low high value) in
    record {
      front = ap (λ n. take n (set ys kept (offset + i))) adds ∙ front_more (is_in_range low high value) ys (places_within low high offset (take i xs)) kept (offset + i) (omega (arith, f.behind)) f.front
          ∙ ap (λ v. places_within low high offset (take i xs) ++ place_if (is_in_range low high v) (offset + i)) (is ∙ same) ∙ sym (places_within-more low high offset xs i inside);
      rest = drop-set-lt (i + 1) ys kept (offset + i) (omega (arith, f.behind)) ∙ drop_more_same ys xs i f.rest;
      behind = omega (arith, f.behind);
      long = length-set ys kept (offset + i) ∙ f.long;
    }
  where
    at_most_one : (b : Bool) → cond b 1 0 ≤ 1
    at_most_one true = omega arith
    at_most_one false = omega arith

pub Filtering-end : (low high offset : ℕ) (xs ys : List ℕ) (kept i : ℕ) → Filtering low high offset xs ys kept i → length xs ≤ i → take kept ys ≡ places_within low high offset xs
Filtering-end low high offset xs ys kept i f all = f.front ∙ ap (places_within low high offset) (take_all i xs all)

-- ---- the places of packed values

-- the place of the first value, and those of the others
pub ids_within-step : (low high first end width : ℕ) (bytes : List ℕ) → first < end
    → ids_within low high first end width bytes ≡ place_if (is_in_range low high (bits_from (first * width) width bytes)) first ++ ids_within low high (first + 1) end width bytes
ids_within-step low high first end width bytes below =
    ap (places_within low high first) (unpacked_from-step first end width bytes below) ∙ places_within-step low high first (bits_from (first * width) width bytes) (unpacked_from (first + 1) (end - (first + 1)) width bytes)

pub ids_within-none : (low high first end width : ℕ) (bytes : List ℕ) → end ≤ first → ids_within low high first end width bytes ≡ []
unfolding places_within
ids_within-none low high first end width bytes past = ap (places_within low high first) (unpacked_from-none first end width bytes past)

-- a loop that pushes: what it has, and what is left
pub ids_within-push : (found next : List ℕ) (low high first end width value : ℕ) (bytes all : List ℕ) (within : Bool) → found ++ ids_within low high first end width bytes ≡ all → first < end
    → value ≡ bits_from (first * width) width bytes → within ≡ is_in_range low high value → next ≡ found ++ place_if within first → next ++ ids_within low high (first + 1) end width bytes ≡ all
ids_within-push found next low high first end width value bytes all within so_far below is tells more =
    ap (λ l. l ++ ids_within low high (first + 1) end width bytes) (more ∙ ap (λ b. found ++ place_if b first) (tells ∙ ap (is_in_range low high) is))
    ∙ append_assoc found (place_if (is_in_range low high (bits_from (first * width) width bytes)) first) (ids_within low high (first + 1) end width bytes)
    ∙ ap (λ l. found ++ l) (sym (ids_within-step low high first end width bytes below)) ∙ so_far

-- a list that was lent and given back
pub lent_back : (n m : ℕ) (ys xs : List ℕ) → length ys ≡ length xs → m ≡ length xs → take n (take m (ys ++ drop (length ys) xs)) ≡ take n ys
lent_back n m ys xs long all =
    let none : drop (length ys) xs ≡ [] = drop_all (length ys) xs (omega arith) in
    ap (λ l. take n (take m (ys ++ l))) none ∙ ap (λ l. take n (take m l)) (append-nil ys) ∙ ap (take n) (take_all m ys (omega arith))

-- ---- numbers below 2^32

same_if : (b c : Bool) (place : ℕ) (ps qs : List ℕ) → b ≡ c → ps ≡ qs → cond b (place ∷ ps) ps ≡ cond c (place ∷ qs) qs
same_if b c place ps qs e f = ap (λ x. cond x (place ∷ ps) ps) e ∙ ap (λ l. cond c (place ∷ l) l) f

within-narrow : (low high value : ℕ) → value < 2 ^ 32 → is_in_range low (min high (2 ^ 32 - 1)) value ≡ is_in_range low high value
within-narrow low high value small = grind (arith, nat_tests)

-- the upper bound may be cut to 32 bits
pub places_within-narrow : (low high place first count width : ℕ) (bytes : List ℕ) → width ≤ 32
    → places_within low (min high (2 ^ 32 - 1)) place (unpacked_from first count width bytes) ≡ places_within low high place (unpacked_from first count width bytes)
unfolding places_within unpacked_from
places_within-narrow low high place first zero width bytes narrow = refl
places_within-narrow low high place first (suc count) width bytes narrow =
    same_if _ _ place _ _ (within-narrow low high (bits_from (first * width) width bytes) (bits_from-fits (first * width) width 32 (bits_from (first * width) width bytes) bytes refl narrow)) (places_within-narrow low high (place + 1) (first + 1) count width bytes narrow)

-- ---- blocks of numbers

-- the ids of a block, and those behind it
pub ids_within-block : (found next more : List ℕ) (low high first count end width : ℕ) (bytes all : List ℕ) → found ++ ids_within low high first end width bytes ≡ all → first + count ≤ end
    → more ≡ places_within low high first (unpacked_from first count width bytes) → next ≡ found ++ more → next ++ ids_within low high (first + count) end width bytes ≡ all
ids_within-block found next more low high first count end width bytes all so_far within is grown =
    let split : end - first ≡ count + (end - (first + count)) = omega arith in
    let block = unpacked_from first count width bytes in
    let behind = unpacked_from (first + count) (end - (first + count)) width bytes in
    let whole : ids_within low high first end width bytes ≡ places_within low high first block ++ ids_within low high (first + count) end width bytes =
    ap (λ n. places_within low high first (unpacked_from first n width bytes)) split ∙ ap (places_within low high first) (unpacked_from-add first count (end - (first + count)) width bytes)
    ∙ places_within-append low high first block behind ∙ ap (λ n. places_within low high first block ++ places_within low high (first + n) behind) (length-unpacked_from first count width bytes) in
    ap (λ l. l ++ ids_within low high (first + count) end width bytes) (grown ∙ ap (λ l. found ++ l) is)
    ∙ append_assoc found (places_within low high first block) (ids_within low high (first + count) end width bytes)
    ∙ ap (λ l. found ++ l) (sym whole) ∙ so_far

-- the bounds in 32 bits: the lower one and how far the upper one, cut to 32 bits, lies above it
pub ids_within-narrow : (found : List ℕ) (low high start end width : ℕ) (bytes : List ℕ) → width ≤ 32 → low ≤ min high (2 ^ 32 - 1)
    → found ≡ ids_within low (low + (min high (2 ^ 32 - 1) - low)) start end width bytes → found ≡ ids_within low high start end width bytes
ids_within-narrow found low high start end width bytes narrow le is =
    let top : low + (min high (2 ^ 32 - 1) - low) ≡ min high (2 ^ 32 - 1) = omega arith in
    is ∙ ap (λ h. ids_within low h start end width bytes) top ∙ places_within-narrow low high start start (end - start) width bytes narrow

pub ids_within-reversed : (low high start end width : ℕ) (bytes : List ℕ) → width ≤ 32 → min high (2 ^ 32 - 1) < low → ids_within low high start end width bytes ≡ []
ids_within-reversed low high start end width bytes narrow reversed =
    sym (places_within-narrow low high start start (end - start) width bytes narrow) ∙ places_within-reversed low (min high (2 ^ 32 - 1)) start (unpacked_from start (end - start) width bytes) reversed
