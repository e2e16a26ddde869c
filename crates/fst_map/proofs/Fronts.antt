-- Readings of bytes that stand at the front, and of bytes that go on.
use Rattle.std.proofs.Common.{◌≡◌, ℕ, zero, suc, ◌^◌, ◌<◌, ◌≤◌, List, [], ◌∷◌, ◌++◌, length, take, drop, Some, None, Bool, true, false, refl, ap, ◌∙◌, arith, length-append, leb}
use Rattle.std.proofs.lemmas.Bool.{le-leb, lt-leb, leb-true}
use Rattle.std.proofs.lemmas.List.{take_at, drop_at, take-append-le, drop-append-le}
use Rattle.std.proofs.lemmas.Nat.{from_le_bytes-to_le_bytes_8}
use Rattle.std.specs.Int.{Width, byte_len, w64, from_le_bytes, to_le_bytes}
use Rattle.owned_bytes.specs.Front.{Reading, ◌>>=◌, provided, number_at, bytes_at}
unfoldable use Rattle.owned_bytes.specs.Front.{counted}
use Rattle.owned_bytes.proofs.Pieces.{bind_some, some_is}

pub provided-true : (b : Bool) (x : Unit {0}) → provided b ≡ Some x → b ≡ true
provided-true true x e = refl
provided-true false x e = absurd cc

pub bytes_at-front : (n : ℕ) (bytes : List ℕ) → n ≤ length bytes → bytes_at n bytes ≡ Some (take n bytes, drop n bytes)
bytes_at-front n bytes fits = ap (λ t. provided t >>= (λ _. Some (take n bytes, drop n bytes))) (le-leb _ _ fits)

pub bytes_at-none : (n : ℕ) (bytes : List ℕ) → length bytes < n → bytes_at n bytes ≡ None
bytes_at-none n bytes short = ap (λ t. provided t >>= (λ _. Some (take n bytes, drop n bytes))) (lt-leb _ _ short)

-- what was found: so many bytes, and those after them
pub bytes_at-found : (n : ℕ) (bytes : List ℕ) (found : List ℕ × List ℕ) → bytes_at n bytes ≡ Some found → (n ≤ length bytes) × ((take n bytes, drop n bytes) ≡ found)
bytes_at-found n bytes found e =
    let step = bind_some (provided (leb n (length bytes))) (λ _. Some (take n bytes, drop n bytes)) found e in
    (leb-true _ _ (provided-true _ _ step.1), some_is _ _ step.2)

-- a reading whose value does not depend on what follows it
pub record IsLocal {A : Type 0} (reading : Reading A) : Type 0 where
  pub longer : (bytes more : List ℕ) (found : A × List ℕ) → reading bytes ≡ Some found → reading (bytes ++ more) ≡ Some (found.0, found.1 ++ more)

pub bytes_at-local : (n : ℕ) → IsLocal (bytes_at n)
bytes_at-local n = record {
  longer = λ bytes more found e.
      let is = bytes_at-found n bytes found e in
      bytes_at-front n (bytes ++ more) (omega (arith, is.0, length-append bytes more))
      ∙ ap (λ (p : List ℕ). Some (p, drop n (bytes ++ more))) (take-append-le n bytes more is.0)
      ∙ ap (λ (r : List ℕ). Some (take n bytes, r)) (drop-append-le n bytes more is.0)
      ∙ ap (λ (p : List ℕ × List ℕ). Some (p.0, p.1 ++ more)) is.1;
}

pub number_at-local : (w : Width) → IsLocal (number_at w)
number_at-local w = record {
  longer = λ bytes more found e.
      let step = bind_some (bytes_at (byte_len w) bytes) (λ piece. Some (from_le_bytes w piece.0, piece.1)) found e in
      ap (λ o. o >>= (λ piece. Some (from_le_bytes w piece.0, piece.1))) ((bytes_at-local (byte_len w)).longer bytes more step.0 step.1)
      ∙ ap (λ (p : ℕ × List ℕ). Some (p.0, p.1 ++ more)) (some_is _ _ step.2);
}

pub number-again : (n : ℕ) (rest : List ℕ) → n < 2 ^ 64 → number_at w64 (to_le_bytes w64 n ++ rest) ≡ Some (n, rest)
number-again n rest fits =
    ap (λ o. o >>= (λ piece. Some (from_le_bytes w64 piece.0, piece.1)))
    (bytes_at-front 8 (to_le_bytes w64 n ++ rest) (omega (arith, length-append (to_le_bytes w64 n) rest))
    ∙ ap (λ (p : List ℕ). Some (p, drop 8 (to_le_bytes w64 n ++ rest))) (take_at (to_le_bytes w64 n) rest 8 refl)
    ∙ ap (λ (r : List ℕ). Some (to_le_bytes w64 n, r)) (drop_at (to_le_bytes w64 n) rest 8 refl))
    ∙ ap (λ m. Some (m, rest)) (from_le_bytes-to_le_bytes_8 n fits)

-- so many values, whatever follows
pub counted-longer : {A : Type 0} (item : Reading A) → IsLocal item → (n : ℕ) (bytes more : List ℕ) (found : List A × List ℕ) → counted n item bytes ≡ Some found → counted n item (bytes ++ more) ≡ Some (found.0, found.1 ++ more)
unfolding counted
counted-longer item l zero bytes more found e = ap (λ (p : List _ × List ℕ). Some (p.0, p.1 ++ more)) (some_is _ _ e)
counted-longer item l (suc n) bytes more found e =
    let first = bind_some (item bytes) (λ first. counted n item first.1 >>= (λ others. Some (first.0 ∷ others.0, others.1))) found e in
    let others = bind_some (counted n item first.0.1) (λ others. Some (first.0.0 ∷ others.0, others.1)) found first.2 in
    ap (λ o. o >>= (λ first. counted n item first.1 >>= (λ others. Some (first.0 ∷ others.0, others.1)))) (l.longer bytes more first.0 first.1)
    ∙ ap (λ o. o >>= (λ others. Some (first.0.0 ∷ others.0, others.1))) (counted-longer item l n first.0.1 more others.0 others.1)
    ∙ ap (λ (p : List _ × List ℕ). Some (p.0, p.1 ++ more)) (some_is _ _ others.2)

-- one more value at the end
pub counted-more : {A : Type 0} (item : Reading A) → IsLocal item → (n : ℕ) (bytes last : List ℕ) (xs : List A) (x : A) (rest : List ℕ) → counted n item bytes ≡ Some (xs, []) → item last ≡ Some (x, rest)
    → counted (suc n) item (bytes ++ last) ≡ Some (xs ++ x ∷ [], rest)
unfolding counted
counted-more item l zero bytes last xs x rest e at_last =
    let same = some_is _ _ e in
    let none : bytes ≡ [] = ap (λ (p : List _ × List ℕ). p.1) same in
    let nil : [] ≡ xs = ap (λ (p : List _ × List ℕ). p.0) same in
    ap (λ (b : List ℕ). item (b ++ last) >>= (λ first. Some (first.0 ∷ [], first.1))) none
    ∙ ap (λ o. o >>= (λ first. Some (first.0 ∷ [], first.1))) at_last
    ∙ ap (λ ys. Some (ys ++ x ∷ [], rest)) nil
counted-more item l (suc n) bytes last xs x rest e at_last =
    let first = bind_some (item bytes) (λ first. counted n item first.1 >>= (λ others. Some (first.0 ∷ others.0, others.1))) (xs, []) e in
    let others = bind_some (counted n item first.0.1) (λ others. Some (first.0.0 ∷ others.0, others.1)) (xs, []) first.2 in
    let same = some_is _ _ others.2 in
    let ends : counted n item first.0.1 ≡ Some (others.0.0, []) = others.1 ∙ ap (λ (r : List ℕ). Some (others.0.0, r)) (ap (λ (p : List _ × List ℕ). p.1) same) in
    ap (λ o. o >>= (λ first. counted (suc n) item first.1 >>= (λ others. Some (first.0 ∷ others.0, others.1)))) (l.longer bytes last first.0 first.1)
    ∙ ap (λ o. o >>= (λ others. Some (first.0.0 ∷ others.0, others.1))) (counted-more item l n first.0.1 last others.0.0 x rest ends at_last)
    ∙ ap (λ ys. Some (ys ++ x ∷ [], rest)) (ap (λ (p : List _ × List ℕ). p.0) same)
