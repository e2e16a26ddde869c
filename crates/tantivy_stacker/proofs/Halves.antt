-- Two lists that agree on two parts that cover them.
use Rattle.std.proofs.Common.{◌≡◌, ℕ, ◌+◌, ◌-◌, ◌≤◌, List, ◌++◌, length, take, drop, sym, ap, ◌∙◌, arith}
use Rattle.std.proofs.lemmas.List.{take-append-drop, take-take, take_rest}
use Rattle.std.proofs.Math.Seq.{take-add}

pub same_from_parts : (xs ys : List ℕ) (k m : ℕ) → m ≤ k → take k xs ≡ take k ys → drop m xs ≡ drop m ys → xs ≡ ys
same_from_parts xs ys k m le front back =
    let first : take m xs ≡ take m ys = sym (take-take m k xs le) ∙ (ap (take m) front ∙ take-take m k ys le) in
    sym (take-append-drop m xs) ∙ (ap (λ zs. zs ++ drop m xs) first ∙ (ap (λ zs. take m ys ++ zs) back ∙ take-append-drop m ys))

pub front_more : (xs ys : List ℕ) (i n : ℕ) → take i xs ≡ take i ys → take n (drop i xs) ≡ take n (drop i ys) → take (i + n) xs ≡ take (i + n) ys
front_more xs ys i n front part = take-add i n xs ∙ (ap (λ zs. zs ++ take n (drop i xs)) front ∙ (ap (λ zs. take i ys ++ zs) part ∙ sym (take-add i n ys)))

-- for slices of n bytes: the last `size` of them, as the code cuts them
pub same_ends : (xs ys : List ℕ) (size : ℕ) → length xs ≡ length ys → size ≤ length xs → length xs ≤ size + size → take size xs ≡ take size ys → take (length xs - (length xs - size)) (drop (length xs - size) xs) ≡ take (length ys - (length xs - size)) (drop (length xs - size) ys) → xs ≡ ys
same_ends xs ys size same least most front back =
    same_from_parts xs ys size (length xs - size) (omega arith) front (sym (take_rest xs (length xs - size)) ∙ (back ∙ take_rest ys (length xs - size)))

pub same_end : (xs ys : List ℕ) (i last : ℕ) → last ≤ i → take i xs ≡ take i ys → take (length xs - last) (drop last xs) ≡ take (length ys - last) (drop last ys) → xs ≡ ys
same_end xs ys i last le front back =
    same_from_parts xs ys i last le front (sym (take_rest xs last) ∙ (back ∙ take_rest ys last))
