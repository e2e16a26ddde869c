-- Parts of a page after more bytes were handed out on it, or after a write.
use Rattle.std.proofs.Common.{◌≡◌, ℕ, ◌+◌, ◌-◌, ◌≤◌, List, [], ◌++◌, length, take, drop, refl, sym, ap, ◌∙◌, arith, length-append, length-drop}
use Rattle.std.proofs.lemmas.List.{take-append-le, drop-append-le, drop-take, take-take, drop-drop, take_at, drop_at, drop_all, take_all, append-nil, length-take, append_assoc, length-take-le}
use Rattle.tantivy_stacker.specs.Arena.{put_on_page}

pub part-append : (o n : ℕ) (xs zs : List ℕ) → o + n ≤ length xs → take n (drop o (xs ++ zs)) ≡ take n (drop o xs)
part-append o n xs zs h =
    let o_in : o ≤ length xs = omega arith in
    let n_in : n ≤ length (drop o xs) = omega (arith, length-drop o xs) in
    ap (take n) (drop-append-le o xs zs o_in) ∙ take-append-le n (drop o xs) zs n_in

pub length-put : (xs : List ℕ) (p : ℕ) (ys : List ℕ) → p + length ys ≤ length xs → length (put_on_page xs p ys) ≡ length xs
length-put xs p ys h =
    omega (arith, length-append (take p xs) (ys ++ drop (p + length ys) xs), length-append ys (drop (p + length ys) xs), length-drop (p + length ys) xs, length-take p xs)

-- before the written part
pub part-put_before : (q m : ℕ) (xs : List ℕ) (p : ℕ) (ys : List ℕ) → p + length ys ≤ length xs → q + m ≤ p → take m (drop q (put_on_page xs p ys)) ≡ take m (drop q xs)
part-put_before q m xs p ys h before =
    let p_is : length (take p xs) ≡ p = length-take-le p xs (omega arith) in
    let first = part-append q m (take p xs) (ys ++ drop (p + length ys) xs) (omega arith) in
    let cut : q + (p - q) ≡ p = omega arith in
    let inner : drop q (take p xs) ≡ take (p - q) (drop q xs) = ap (λ k. drop q (take k xs)) (sym cut) ∙ drop-take q (p - q) xs in
    first ∙ (ap (take m) inner ∙ take-take m (p - q) (drop q xs) (omega arith))

-- after the written part
pub part-put_after : (q m : ℕ) (xs : List ℕ) (p : ℕ) (ys : List ℕ) → p + length ys ≤ length xs → p + length ys ≤ q → take m (drop q (put_on_page xs p ys)) ≡ take m (drop q xs)
part-put_after q m xs p ys h after =
    let p_is : length (take p xs) ≡ p = length-take-le p xs (omega arith) in
    let e = p + length ys in
    let whole : put_on_page xs p ys ≡ (take p xs ++ ys) ++ drop e xs = sym (append_assoc (take p xs) ys (drop e xs)) in
    let front : length (take p xs ++ ys) ≡ e = omega (arith, length-append (take p xs) ys) in
    let cut : e + (q - e) ≡ q = omega arith in
    let dropped : drop q (put_on_page xs p ys) ≡ drop (q - e) (drop e (put_on_page xs p ys)) = ap (λ k. drop k (put_on_page xs p ys)) (sym cut) ∙ sym (drop-drop (q - e) e (put_on_page xs p ys)) in
    let rest : drop e (put_on_page xs p ys) ≡ drop e xs = ap (drop e) whole ∙ drop_at (take p xs ++ ys) (drop e xs) e front in
    ap (take m) (dropped ∙ (ap (drop (q - e)) rest ∙ (drop-drop (q - e) e xs ∙ ap (λ k. drop k xs) cut)))

-- the written part itself
pub part-put_same : (xs : List ℕ) (p : ℕ) (ys : List ℕ) → p + length ys ≤ length xs → take (length ys) (drop p (put_on_page xs p ys)) ≡ ys
part-put_same xs p ys h =
    let p_is : length (take p xs) ≡ p = length-take-le p xs (omega arith) in
    ap (take (length ys)) (drop_at (take p xs) (ys ++ drop (p + length ys) xs) p p_is) ∙ take_at ys (drop (p + length ys) xs) (length ys) refl

-- what is written over a part of a list of n, as far as the list goes
pub refill-put : (xs new : List ℕ) (p n : ℕ) → length xs ≡ n → p ≤ length xs
    → take n ((take p xs ++ (new ++ drop (length new) (drop p xs))) ++ drop (length (take p xs ++ (new ++ drop (length new) (drop p xs)))) xs) ≡ take (length xs) (put_on_page xs p new)
refill-put xs new p n is below =
    let whole : List ℕ = take p xs ++ (new ++ drop (length new) (drop p xs)) in
    let long : length xs ≤ length whole = omega (arith, length-append (take p xs) (new ++ drop (length new) (drop p xs)), length-append new (drop (length new) (drop p xs)), length-drop (length new) (drop p xs), length-drop p xs, length-take-le p xs below) in
    let none : drop (length whole) xs ≡ [] = drop_all (length whole) xs long in
    ap (λ (zs : List ℕ). take n (whole ++ zs)) none ∙ (ap (take n) (append-nil whole) ∙ (ap (λ k. take k whole) (sym is) ∙ ap (λ (zs : List ℕ). take (length xs) (take p xs ++ (new ++ zs))) (drop-drop (length new) p xs)))

pub take-put : (xs new : List ℕ) (p : ℕ) → p + length new ≤ length xs → take (length xs) (put_on_page xs p new) ≡ put_on_page xs p new
take-put xs new p h = take_all (length xs) (put_on_page xs p new) (omega (arith, length-put xs p new h))
