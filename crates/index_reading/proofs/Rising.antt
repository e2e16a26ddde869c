-- Rising numbers of documents.
use Rattle.std.proofs.Common.{◌≡◌, ℕ, suc, ◌+◌, ◌<◌, ◌≤◌, ◌⊎◌, ⊎_elim, List, [], ◌∷◌, length, drop, get_or, Option, Some, None, Bool, true, false, All, refl, ap, sym, ◌∙◌, arith, add-one}
use Rattle.std.specs.Prelude.{nat_le, nat_lt, ◌&&◌, if◌then◌else◌}
use Rattle.std.proofs.Math.Seq.{drop-cons}
use Rattle.std.proofs.lemmas.Bool.{and_parts, and_from, le-leb, leb-true, lt-ltb, ltb-true, le-ltb, lt-leb}
use Rattle.std.proofs.lemmas.List.Elements.{All-nil, All-cons, All-head, All-tail}
use Rattle.index_file.specs.IndexFile.{is_increasing}
use Rattle.index_reading.specs.Opened.{AreNumbers}

-- Where each number is at least `least`, above the ones before it and below `documents`: the least number that could follow.
unfoldable pub least_after : ℕ → ℕ → List ℕ → Option ℕ
least_after documents least [] = Some least
least_after documents least (number ∷ numbers) =
    if nat_le least number && nat_lt number documents then least_after documents (number + 1) numbers else None

if_some : (t : Bool) (x : Option ℕ) (n : ℕ) → (if t then x else None) ≡ Some n → (t ≡ true) × (x ≡ Some n)
if_some true x n e = (refl, e)
if_some false x n e = absurd (nothing e)
  where
    nothing : None ≡ Some n → ⊥
    nothing e = cc

if_true : (t : Bool) (x : Option ℕ) → t ≡ true → (if t then x else None) ≡ x
if_true t x is = ap (λ b. if b then x else None) is

if_false : (t : Bool) (x : Option ℕ) → t ≡ false → (if t then x else None) ≡ None
if_false t x is = ap (λ b. if b then x else None) is

and_second_false : (a b : Bool) → b ≡ false → (a && b) ≡ false
and_second_false true b e = e
and_second_false false b e = refl

-- ---- one number more

pub least-taken : (documents least number : ℕ) (numbers : List ℕ) → least ≤ number → number < documents → least_after documents least (number ∷ numbers) ≡ least_after documents (number + 1) numbers
unfolding least_after
least-taken documents least number numbers low high =
    if_true (nat_le least number && nat_lt number documents) (least_after documents (number + 1) numbers) (and_from _ _ (le-leb _ _ low) (lt-ltb _ _ high))

pub least-refused : (documents least number : ℕ) (numbers : List ℕ) → (number < least) ⊎ (documents ≤ number) → least_after documents least (number ∷ numbers) ≡ None
unfolding least_after
least-refused documents least number numbers out =
    if_false (nat_le least number && nat_lt number documents) (least_after documents (number + 1) numbers)
    (⊎_elim (λ low. ap (λ b. b && nat_lt number documents) (lt-leb _ _ low)) (λ high. and_second_false (nat_le least number) (nat_lt number documents) (le-ltb _ _ high)) out)

-- the number at a place and those behind it
pub least-step : (documents least : ℕ) (numbers : List ℕ) (i : ℕ) → i < length numbers → least ≤ get_or numbers i 0 → get_or numbers i 0 < documents
    → least_after documents least (drop i numbers) ≡ least_after documents (get_or numbers i 0 + 1) (drop (i + 1) numbers)
least-step documents least numbers i within low high =
    ap (least_after documents least) (drop-cons numbers i 0 within)
    ∙ least-taken documents least (get_or numbers i 0) (drop (suc i) numbers) low high
    ∙ ap (λ n. least_after documents (get_or numbers i 0 + 1) (drop n numbers)) (sym (add-one i))

pub least-stop : (documents least : ℕ) (numbers : List ℕ) (i : ℕ) → i < length numbers → (get_or numbers i 0 < least) ⊎ (documents ≤ get_or numbers i 0)
    → least_after documents least (drop i numbers) ≡ None
least-stop documents least numbers i within out =
    ap (least_after documents least) (drop-cons numbers i 0 within) ∙ least-refused documents least (get_or numbers i 0) (drop (suc i) numbers) out

-- ---- they rise

-- behind a number
rises_behind : (documents number : ℕ) (xs : List ℕ) (n : ℕ) → least_after documents (number + 1) xs ≡ Some n → (is_increasing (number ∷ xs) ≡ true) × All (λ x. x < documents) xs
unfolding least_after is_increasing
rises_behind documents number [] n e = (refl, All-nil (λ x. x < documents))
rises_behind documents number (x ∷ xs) n e =
    let parts = if_some (nat_le (number + 1) x && nat_lt x documents) (least_after documents (x + 1) xs) n e in
    let tests = and_parts (nat_le (number + 1) x) (nat_lt x documents) parts.0 in
    let others = rises_behind documents x xs n parts.1 in
    let above : number < x = omega (arith, leb-true _ _ tests.0) in
    (and_from (nat_lt number x) (is_increasing (x ∷ xs)) (lt-ltb _ _ above) others.0, All-cons (λ x. x < documents) x xs (ltb-true _ _ tests.1) others.1)

pub rises : (documents : ℕ) (xs : List ℕ) (n : ℕ) → least_after documents 0 xs ≡ Some n → AreNumbers documents xs
unfolding least_after is_increasing
rises documents [] n e = record { rising = refl; below = All-nil (λ x. x < documents) }
rises documents (x ∷ xs) n e =
    let parts = if_some (nat_le 0 x && nat_lt x documents) (least_after documents (x + 1) xs) n e in
    let tests = and_parts (nat_le 0 x) (nat_lt x documents) parts.0 in
    let others = rises_behind documents x xs n parts.1 in
    record { rising = others.0; below = All-cons (λ x. x < documents) x xs (ltb-true _ _ tests.1) others.1 }

taken_behind : (documents number : ℕ) (xs : List ℕ) → is_increasing (number ∷ xs) ≡ true → All (λ x. x < documents) xs → (n : ℕ) × (least_after documents (number + 1) xs ≡ Some n)
unfolding least_after is_increasing
taken_behind documents number [] rising below = (number + 1, refl)
taken_behind documents number (x ∷ xs) rising below =
    let parts = and_parts (nat_lt number x) (is_increasing (x ∷ xs)) rising in
    let others = taken_behind documents x xs parts.1 (All-tail (λ x. x < documents) x xs below) in
    let above : number + 1 ≤ x = omega (arith, ltb-true _ _ parts.0) in
    (others.0, least-taken documents (number + 1) x xs above (All-head (λ x. x < documents) x xs below) ∙ others.1)

pub taken : (documents : ℕ) (xs : List ℕ) → AreNumbers documents xs → (n : ℕ) × (least_after documents 0 xs ≡ Some n)
unfolding least_after is_increasing
taken documents [] numbers = (0, refl)
taken documents (x ∷ xs) numbers =
    let others = taken_behind documents x xs numbers.rising (All-tail (λ x. x < documents) x xs numbers.below) in
    (others.0, least-taken documents 0 x xs (omega arith) (All-head (λ x. x < documents) x xs numbers.below) ∙ others.1)

pub not_rising : (documents : ℕ) (xs : List ℕ) → least_after documents 0 xs ≡ None → AreNumbers documents xs → ⊥
not_rising documents xs none numbers = let found = taken documents xs numbers in nothing found.0 (sym none ∙ found.1)
  where
    nothing : (n : ℕ) → None ≡ Some n → ⊥
    nothing n e = cc

-- ---- there are no more of them than documents

few_behind : (documents number : ℕ) (xs : List ℕ) → is_increasing (number ∷ xs) ≡ true → number < documents → All (λ x. x < documents) xs → number + 1 + length xs ≤ documents
unfolding is_increasing
few_behind documents number [] rising low below = omega (arith, low)
few_behind documents number (x ∷ xs) rising low below =
    let parts = and_parts (nat_lt number x) (is_increasing (x ∷ xs)) rising in
    let others = few_behind documents x xs parts.1 (All-head (λ x. x < documents) x xs below) (All-tail (λ x. x < documents) x xs below) in
    omega (arith, others, ltb-true _ _ parts.0)

pub few : (documents : ℕ) (xs : List ℕ) → AreNumbers documents xs → length xs ≤ documents
unfolding is_increasing
few documents [] numbers = omega arith
few documents (x ∷ xs) numbers =
    let others = few_behind documents x xs numbers.rising (All-head (λ x. x < documents) x xs numbers.below) (All-tail (λ x. x < documents) x xs numbers.below) in
    omega (arith, others)
