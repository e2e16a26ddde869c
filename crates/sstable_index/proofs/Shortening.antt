-- The last key of a buffer, as it is shortened there.
use Rattle.std.proofs.Common.{◌≡◌, ℕ, zero, suc, ◌+◌, ◌-◌, ◌<◌, ◌≤◌, List, [], ◌∷◌, ◌++◌, length, take, drop, get_or, append_assoc, refl, ap, sym, ◌∙◌, arith, length-drop}
use Rattle.std.proofs.lemmas.List.{get_or-drop, take-append-drop}
use Rattle.owned_bytes.specs.Keys.{Key, shared}
use Rattle.block_addresses.specs.Shortened.{shortened}
use Rattle.block_addresses.proofs.Shortening.{kept_to, kept_to-high, kept_to-low, kept_to-end, shortened-is}

-- the buffer with the bytes before a place of its last key kept
abbrev pub kept_from : ℕ → ℕ → List ℕ → List ℕ
kept_from start place bytes = take start bytes ++ kept_to (place - start) (drop start bytes)

pub kept_from-begun : (start place : ℕ) (bytes : List ℕ) (right : Key) → place ≡ start + shared (drop start bytes) right + 1
    → kept_from start place bytes ≡ take start bytes ++ shortened (drop start bytes) right
kept_from-begun start place bytes right is =
    let n : place - start ≡ shared (drop start bytes) right + 1 = omega (arith, is) in
    ap (λ k. take start bytes ++ kept_to k (drop start bytes)) n ∙ ap (λ key. take start bytes ++ key) (sym (shortened-is (drop start bytes) right))

at_place : (start place : ℕ) (bytes : List ℕ) → start ≤ place → get_or (drop start bytes) (place - start) 0 ≡ get_or bytes place 0
at_place start place bytes after =
    let n : start + (place - start) ≡ place = omega (arith, after) in
    get_or-drop start bytes (place - start) 0 ∙ ap (λ i. get_or bytes i 0) n

pub kept_from-high : (start place : ℕ) (bytes : List ℕ) → start ≤ place → place < length bytes → get_or bytes place 0 ≡ 255 → kept_from start (place + 1) bytes ≡ kept_from start place bytes
kept_from-high start place bytes after below high =
    let n : place + 1 - start ≡ place - start + 1 = omega (arith, after) in
    ap (λ k. take start bytes ++ kept_to k (drop start bytes)) n
    ∙ ap (λ key. take start bytes ++ key) (kept_to-high (drop start bytes) (place - start) (omega (arith, length-drop start bytes, after, below)) (at_place start place bytes after ∙ high))

take_nil : (n : ℕ) (none : List ℕ) → none ≡ [] → take n none ≡ []
take_nil zero none is = refl
take_nil (suc n) none is = ap (take (suc n)) is

front_of : (start place : ℕ) (bytes : List ℕ) → start ≤ place → take start bytes ++ take (place - start) (drop start bytes) ≡ take place bytes
front_of zero place bytes after = ap (λ n. take n bytes) (omega arith)
front_of (suc n) zero bytes after = absurd (omega arith)
front_of (suc n) (suc m) [] after = take_nil (suc m - suc n) [] refl
front_of (suc n) (suc m) (b ∷ bytes) after =
    let e : suc m - suc n ≡ m - n = omega arith in
    ap (λ bs. b ∷ bs) (ap (λ k. take n bytes ++ take k (drop n bytes)) e ∙ front_of n m bytes (omega arith))

pub kept_from-low : (start place : ℕ) (bytes : List ℕ) → start ≤ place → place < length bytes → (get_or bytes place 0 ≡ 255 → ⊥) → kept_from start place bytes ≡ take place bytes ++ (get_or bytes place 0 + 1) ∷ []
kept_from-low start place bytes after below low =
    let at = at_place start place bytes after in
    ap (λ key. take start bytes ++ key) (kept_to-low (drop start bytes) (place - start) (omega (arith, length-drop start bytes, after, below)) (λ high. low (sym at ∙ high)))
    ∙ sym (append_assoc (take start bytes) (take (place - start) (drop start bytes)) _)
    ∙ ap (λ front. front ++ (get_or (drop start bytes) (place - start) 0 + 1) ∷ []) (front_of start place bytes after)
    ∙ ap (λ b. take place bytes ++ (b + 1) ∷ []) at

pub kept_from-end : (start place : ℕ) (bytes : List ℕ) → start ≤ place → length bytes ≤ place → kept_from start place bytes ≡ bytes
kept_from-end start place bytes after past =
    ap (λ key. take start bytes ++ key) (kept_to-end (drop start bytes) (place - start) (omega (arith, length-drop start bytes, after, past)))
    ∙ take-append-drop start bytes
