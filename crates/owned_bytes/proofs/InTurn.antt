-- Two writes, one after the other.
use Rattle.std.proofs.Common.{◌≡◌, ℕ, List, ◌++◌, length, drop, None, Some, Option, Result, Ok, Err, sym, ap, ◌∙◌, refl, append_assoc, arith}
use Rattle.std.proofs.lemmas.List.{append_cancel_left}
use Rattle.std.proofs.KnownBytes.{Appends-trans, starts_with_rest}
use Rattle.std.specs.Io.{StartsWith}
use Rattle.std.specs.Io.KnownBytes.{Appends}
use Rattle.owned_bytes.specs.Outside.{AppendsPrefix, WritesAll, HasCause, Rose}
use Rattle.owned_bytes.proofs.Prefixes.{AppendsPrefix-of_front}

-- what was appended, and what was not
Cut : List ℕ → List ℕ → List ℕ → Type 0
Cut xs ys bs = (front : List ℕ) × (rest : List ℕ) × (ys ≡ xs ++ front) × (bs ≡ front ++ rest)

cut_of : (xs ys bs : List ℕ) → StartsWith ys xs → StartsWith (xs ++ bs) ys → Cut xs ys bs
unfolding Cut
cut_of xs ys bs begins within =
    let front = drop (length xs) ys in
    let rest = drop (length ys) (xs ++ bs) in
    let is : ys ≡ xs ++ front = starts_with_rest ys xs begins in
    let whole : xs ++ bs ≡ ys ++ rest = starts_with_rest (xs ++ bs) ys within in
    (front, rest, is, append_cancel_left xs bs (front ++ rest) (whole ∙ ap (λ (l : List ℕ). l ++ rest) is ∙ append_assoc xs front rest))

of_cut : (xs ys bs : List ℕ) → Cut xs ys bs → AppendsPrefix (Some xs) (Some ys) bs
unfolding Cut
of_cut xs ys bs (front, rest, is, split) = AppendsPrefix-of_front (Some xs) (Some ys) (Some ys) front rest bs is refl split

-- all bytes are a prefix of themselves and more
pub AppendsPrefix-all : (a b : Option (List ℕ)) (bs more : List ℕ) → Appends a b bs → AppendsPrefix a b (bs ++ more)
AppendsPrefix-all None b bs more all = tt
AppendsPrefix-all (Some xs) None bs more all = absurd all
AppendsPrefix-all (Some xs) (Some ys) bs more all = AppendsPrefix-of_front (Some xs) (Some ys) (Some ys) bs more (bs ++ more) all refl refl

-- a write of the first piece that fails is one of both that fails
pub AppendsPrefix-first : (a b : Option (List ℕ)) (bs more : List ℕ) → AppendsPrefix a b bs → AppendsPrefix a b (bs ++ more)
unfolding Cut
AppendsPrefix-first None b bs more cut = tt
AppendsPrefix-first (Some xs) None bs more cut = absurd cut
AppendsPrefix-first (Some xs) (Some ys) bs more cut =
    let (front, rest, is, split) = cut_of xs ys bs cut.0 cut.1 in
    of_cut xs ys (bs ++ more) (front, rest ++ more, is, ap (λ (l : List ℕ). l ++ more) split ∙ append_assoc front rest more)

-- the first piece was written, and then a prefix of the second
pub AppendsPrefix-second : (a b c : Option (List ℕ)) (bs more : List ℕ) → Appends a b bs → AppendsPrefix b c more → AppendsPrefix a c (bs ++ more)
unfolding Cut
AppendsPrefix-second None b c bs more all cut = tt
AppendsPrefix-second (Some xs) None c bs more all cut = absurd all
AppendsPrefix-second (Some xs) (Some ys) None bs more all cut = absurd cut
AppendsPrefix-second (Some xs) (Some ys) (Some zs) bs more all cut =
    let (front, rest, is, split) = cut_of ys zs more cut.0 cut.1 in
    of_cut xs zs (bs ++ more) (bs ++ front, rest, is ∙ ap (λ (l : List ℕ). l ++ front) all ∙ append_assoc xs bs front, ap (λ (l : List ℕ). bs ++ l) split ∙ sym (append_assoc bs front rest))

-- the first piece was written, and then the second as far as it went
pub WritesAll-second : {T E : Type 0} (a b c : Option (List ℕ)) (r : Result T E) (bs more : List ℕ) → Appends a b bs → WritesAll b c r more → WritesAll a c r (bs ++ more)
WritesAll-second a b c (Ok x) bs more first second = Appends-trans a b c bs more first second
WritesAll-second a b c (Err e) bs more first second = AppendsPrefix-second a b c bs more first second

-- a failure of the second call is one of both
pub HasCause-second : (before middle now : ℕ) (P Q : Type 0) → HasCause before middle P → HasCause middle now Q → HasCause before now Q
HasCause-second before middle now P Q first second = record {
  later = omega (arith, first.later, second.later);
  rose = λ failed. let risen : Rose middle now = second.rose failed in omega (arith, first.later, risen);
}

-- where the count of faults is the constant 0, no call fails by the object
pub never_fails : (P : Type 0) → HasCause 0 0 P → P → ⊥
never_fails P cause failed = let risen : Rose 0 0 = cause.rose failed in absurd (omega (arith, risen))
