-- A write that fails has appended what was written before.
use Rattle.std.proofs.Common.{◌≡◌, ℕ, List, ◌++◌, length, take, None, Some, Option, sym, ap, ◌∙◌, refl, append_assoc}
use Rattle.std.proofs.lemmas.List.{take_at}
use Rattle.std.specs.Io.{StartsWith}
use Rattle.std.specs.Io.KnownBytes.{Appends, Keeps}
use Rattle.owned_bytes.specs.Outside.{AppendsPrefix}

starts : (xs front rest ys all : List ℕ) → ys ≡ xs ++ front → all ≡ front ++ rest → StartsWith ys xs × StartsWith (xs ++ all) ys
starts xs front rest ys all is split =
    let whole : xs ++ all ≡ ys ++ rest = ap (λ (l : List ℕ). xs ++ l) split ∙ sym (append_assoc xs front rest) ∙ ap (λ (l : List ℕ). l ++ rest) (sym is) in
    (ap (take (length xs)) is ∙ take_at xs front (length xs) refl, ap (take (length ys)) whole ∙ take_at ys rest (length ys) refl)

pub AppendsPrefix-of_front : (a b c : Option (List ℕ)) (front rest all : List ℕ) → Appends a b front → Keeps b c → all ≡ front ++ rest → AppendsPrefix a c all
AppendsPrefix-of_front None b c front rest all appended kept split = tt
AppendsPrefix-of_front (Some xs) None c front rest all appended kept split = absurd appended
AppendsPrefix-of_front (Some xs) (Some ys) None front rest all appended kept split = absurd kept
AppendsPrefix-of_front (Some xs) (Some ys) (Some zs) front rest all appended kept split = starts xs front rest zs all (kept ∙ appended) split
