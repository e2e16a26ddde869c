-- Texts with a byte between them, one more at a time.
use Rattle.std.proofs.Common.{◌≡◌, ◌∙◌, sym, ap, refl, ℕ, zero, suc, ◌+◌, ◌<◌, List, [], ◌∷◌, ◌++◌, length, map, take, get_or, append_assoc, arith, add-one}
use Rattle.std.proofs.Math.Seq.{take-suc}
use Rattle.std.specs.List.{join_with_byte}
use Rattle.query_tree.specs.Texts.{gap}

-- what stands in front of one more
abbrev between : {A : Type 0} → List A → List ℕ
between [] = []
between (x ∷ xs) = 32 ∷ []

joined : {A : Type 0} (text : A → List ℕ) (xs : List A) (y : A) → join_with_byte 32 (map text (xs ++ y ∷ [])) ≡ (join_with_byte 32 (map text xs) ++ between xs) ++ text y
joined text [] y = refl
joined text (x ∷ []) y = sym (append_assoc (text x) (32 ∷ []) (text y))
joined text (x ∷ z ∷ xs) y =
    let more : join_with_byte 32 (map text ((z ∷ xs) ++ y ∷ [])) ≡ (join_with_byte 32 (map text (z ∷ xs)) ++ 32 ∷ []) ++ text y = joined text (z ∷ xs) y in
    ap (λ s. text x ++ 32 ∷ s) more
    ∙ sym (ap (λ s. s ++ text y) (append_assoc (text x) (32 ∷ join_with_byte 32 (map text (z ∷ xs))) (32 ∷ [])) ∙ append_assoc (text x) (32 ∷ (join_with_byte 32 (map text (z ∷ xs)) ++ 32 ∷ [])) (text y))

gap_between : {A : Type 0} (i : ℕ) (xs : List A) → i < length xs → gap i ≡ between (take i xs)
gap_between i [] h = absurd (omega arith)
gap_between zero (x ∷ xs) h = refl
gap_between (suc i) (x ∷ xs) h = refl

-- the text of i items, a gap, and the next one
pub join_turn : {A : Type 0} (text : A → List ℕ) (xs : List A) (i : ℕ) (x : A) → i < length xs → x ≡ get_or xs i x
    → (join_with_byte 32 (map text (take i xs)) ++ gap i) ++ text x ≡ join_with_byte 32 (map text (take (i + 1) xs))
join_turn text xs i x h e =
    ap (λ g. (join_with_byte 32 (map text (take i xs)) ++ g) ++ text x) (gap_between i xs h)
    ∙ sym (joined text (take i xs) x)
    ∙ ap (λ ys. join_with_byte 32 (map text ys)) (ap (λ y. take i xs ++ y ∷ []) e ∙ sym (take-suc xs i x h) ∙ ap (λ n. take n xs) (sym (add-one i)))
