-- A reader of contracts may skip this file: the laws of pairs.
use Rattle.std.proofs.Common.{◌≡◌, List, ℕ, ◌++◌, ap, ◌∙◌, append_assoc, length, length-append, ◌+◌, ◌-◌, ◌^◌, min, arith}
use Rattle.common_wire.specs.Taking.{Taking, Value, continued, ◌>>=◌, give}
use Rattle.common_wire.specs.Wire.{pair}
use Rattle.common_wire.specs.Serialized.{IsTaking}
use Rattle.common_wire.specs.TakingLaws.{IsTaking-give, IsTaking-then}

pub IsTaking-pair : {A B : Type 0} (first : Taking A) (second : Taking B) → IsTaking first → IsTaking second → IsTaking (pair first second)
unfolding pair
IsTaking-pair first second p q = IsTaking-then first _ p (λ a. IsTaking-then second _ q (λ b. IsTaking-give (a, b)))

pub pair-again : {A B : Type 0} (first : Taking A) (second : Taking B) (xs ys : List ℕ) (a : A) (b : B) (rest : List ℕ) → ((more : List ℕ) → first (xs ++ more) ≡ Value a more) → ((more : List ℕ) → second (ys ++ more) ≡ Value b more)
    → pair first second (xs ++ ys ++ rest) ≡ Value (a, b) rest
unfolding pair
pair-again first second xs ys a b rest one two =
    ap (λ bytes. continued (first bytes) (λ x. second >>= (λ y. give (x, y)))) (append_assoc xs ys rest)
    ∙ ap (λ taken. continued taken (λ x. second >>= (λ y. give (x, y)))) (one (ys ++ rest))
    ∙ ap (λ taken. continued taken (λ y. give (a, y))) (two rest)

pub pair-size : (xs ys : List ℕ) (n m : ℕ) → min (length xs) (2 ^ 64 - 1) ≡ n → min (length ys) (2 ^ 64 - 1) ≡ m → min (length (xs ++ ys)) (2 ^ 64 - 1) ≡ min (n + m) (2 ^ 64 - 1)
pair-size xs ys n m one two = omega (arith, length-append xs ys)
