-- What a write that fails has appended, behind what was appended before.
use Rattle.std.proofs.Common.{◌≡◌, ℕ, List, ◌++◌, length, take, drop, None, Some, Option, sym, ap, ◌∙◌, refl, append_assoc}
use Rattle.std.proofs.lemmas.List.{take_at}
use Rattle.std.specs.Io.{StartsWith}
use Rattle.std.proofs.KnownBytes.{starts_with_rest}
use Rattle.std.specs.Io.KnownBytes.{Appends}
use Rattle.owned_bytes.specs.Outside.{AppendsPrefix}

-- what is at the front of a front is at the front of the whole
front_of_front : (xs ys zs rest : List ℕ) → StartsWith (ys ++ zs) xs → StartsWith (ys ++ (zs ++ rest)) xs
front_of_front xs ys zs rest starts =
    let whole : ys ++ (zs ++ rest) ≡ xs ++ (drop (length xs) (ys ++ zs) ++ rest) =
    sym (append_assoc ys zs rest) ∙ ap (λ l. l ++ rest) (starts_with_rest (ys ++ zs) xs starts) ∙ append_assoc xs (drop (length xs) (ys ++ zs)) rest in
    ap (take (length xs)) whole ∙ take_at xs (drop (length xs) (ys ++ zs) ++ rest) (length xs) refl

-- a prefix of the front is a prefix of the whole
pub AppendsPrefix-longer : (a b : Option (List ℕ)) (front rest : List ℕ) → AppendsPrefix a b front → AppendsPrefix a b (front ++ rest)
AppendsPrefix-longer None b front rest p = tt
AppendsPrefix-longer (Some xs) None front rest p = absurd p
AppendsPrefix-longer (Some xs) (Some ys) front rest p = (p.0, front_of_front ys xs front rest p.1)

behind : (xs ys zs front more : List ℕ) → ys ≡ xs ++ front → StartsWith zs ys → StartsWith (ys ++ more) zs → StartsWith zs xs × StartsWith (xs ++ (front ++ more)) zs
behind xs ys zs front more is grown within =
    let long : zs ≡ xs ++ (front ++ drop (length ys) zs) = starts_with_rest zs ys grown ∙ ap (λ l. l ++ drop (length ys) zs) is ∙ append_assoc xs front (drop (length ys) zs) in (
      ap (take (length xs)) long ∙ take_at xs (front ++ drop (length ys) zs) (length xs) refl,
      ap (take (length zs)) (sym (append_assoc xs front more) ∙ ap (λ l. l ++ more) (sym is)) ∙ within,
    )

-- a prefix behind a front that was appended
pub AppendsPrefix-behind : (a b c : Option (List ℕ)) (front more : List ℕ) → Appends a b front → AppendsPrefix b c more → AppendsPrefix a c (front ++ more)
AppendsPrefix-behind None b c front more p q = tt
AppendsPrefix-behind (Some xs) None c front more p q = absurd p
AppendsPrefix-behind (Some xs) (Some ys) None front more p q = absurd q
AppendsPrefix-behind (Some xs) (Some ys) (Some zs) front more p q = behind xs ys zs front more p q.0 q.1
