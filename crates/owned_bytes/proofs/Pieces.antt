-- Laws of pieces: they are what stands at the front and then the pieces of the rest, however many there may be at most.
use Rattle.std.proofs.Common.{◌≡◌, ℕ, zero, suc, ◌-◌, ◌<◌, ◌≤◌, List, [], ◌∷◌, ◌++◌, length, Option, Some, None, refl, ap, sym, ◌∙◌, arith, append_assoc, length-append, take, drop, length-drop}
use Rattle.std.specs.Prelude.{nat_le, Bool, true, false}
use Rattle.std.proofs.lemmas.Bool.{le-leb}
use Rattle.std.proofs.lemmas.List.{take_all}
use Rattle.std.proofs.Math.Seq.{take-append_seam, drop-append_seam}
use Rattle.std.specs.List.{flat_map, AllByRecursion}
use Rattle.owned_bytes.specs.Front.{Reading, ◌>>=◌, provided, bytes_at, Front, End, Piece, Fault, piece_or_fault, continued, pieces_upto, pieces}

-- a piece takes a byte or more
pub record Shrinks {A : Type 0} (front : List ℕ → Front A) : Type 0 where
  pub shorter : (bytes rest : List ℕ) (x : A) → front bytes ≡ Piece x rest → length rest < length bytes

-- only what follows a piece matters
continued-same : {A : Type 0} (f : Front A) (bytes : List ℕ) (g h : Reading (List A)) → ((x : A) (rest : List ℕ) → f ≡ Piece x rest → g rest ≡ h rest) → continued g bytes f ≡ continued h bytes f
continued-same End bytes g h same = refl
continued-same (Piece x rest) bytes g h same = ap (λ o. o >>= (λ found. Some (x ∷ found.0, found.1))) (same x rest refl)
continued-same Fault bytes g h same = refl

-- a greater number of pieces changes nothing
more_pieces : {A : Type 0} (front : List ℕ → Front A) → Shrinks front → (n m : ℕ) (bytes : List ℕ) → length bytes ≤ n → length bytes ≤ m → pieces_upto n front bytes ≡ pieces_upto m front bytes
unfolding pieces_upto
more_pieces front s zero zero bytes hn hm = refl
more_pieces front s zero (suc m) bytes hn hm = continued-same (front bytes) bytes (λ rest. None) (pieces_upto m front) (λ x rest e. absurd (omega (arith, s.shorter bytes rest x e)))
more_pieces front s (suc n) zero bytes hn hm = continued-same (front bytes) bytes (pieces_upto n front) (λ rest. None) (λ x rest e. absurd (omega (arith, s.shorter bytes rest x e)))
more_pieces front s (suc n) (suc m) bytes hn hm = continued-same (front bytes) bytes (pieces_upto n front) (pieces_upto m front)
    (λ x rest e. let shorter : length rest < length bytes = s.shorter bytes rest x e in more_pieces front s n m rest (omega arith) (omega arith))

-- the pieces of some bytes are what stands at the front, and then the pieces of the rest
pub pieces-step : {A : Type 0} (front : List ℕ → Front A) → Shrinks front → (bytes : List ℕ) → pieces front bytes ≡ continued (pieces front) bytes (front bytes)
unfolding pieces pieces_upto
pieces-step front s [] = continued-same (front []) [] (λ rest. None) (pieces front) (λ x rest e. absurd (omega (arith, s.shorter [] rest x e)))
pieces-step front s (b ∷ bytes) = continued-same (front (b ∷ bytes)) (b ∷ bytes) (pieces_upto (length bytes) front) (pieces front)
    (λ x rest e. let shorter : length rest < length (b ∷ bytes) = s.shorter (b ∷ bytes) rest x e in more_pieces front s (length bytes) (length rest) rest (omega arith) (omega arith))

-- these pieces and then others
abbrev pub with_front : {A : Type 0} → List A → Option (List A × List ℕ) → Option (List A × List ℕ)
with_front xs found = found >>= (λ others. Some (xs ++ others.0, others.1))

with_front-more : {A : Type 0} (x : A) (xs : List A) (found : Option (List A × List ℕ)) → (with_front xs found >>= (λ others. Some (x ∷ others.0, others.1))) ≡ with_front (x ∷ xs) found
with_front-more x xs None = refl
with_front-more x xs (Some found) = refl

with_front-none : {A : Type 0} (found : Option (List A × List ℕ)) → found ≡ with_front [] found
with_front-none None = refl
with_front-none (Some found) = refl

-- pieces that are spelled one after the other are read again, whatever follows them
pub pieces-spelled : {A : Type 0} (front : List ℕ → Front A) → Shrinks front → (spell : A → List ℕ) (P : A → Type 0) → ((x : A) (rest : List ℕ) → P x → front (spell x ++ rest) ≡ Piece x rest)
    → (xs : List A) → AllByRecursion P xs → (rest : List ℕ) → pieces front (flat_map spell xs ++ rest) ≡ with_front xs (pieces front rest)
pieces-spelled front s spell P one [] all rest = with_front-none (pieces front rest)
pieces-spelled front s spell P one (x ∷ xs) all rest =
    let e : flat_map spell (x ∷ xs) ++ rest ≡ spell x ++ (flat_map spell xs ++ rest) = append_assoc (spell x) (flat_map spell xs) rest in
    ap (pieces front) e ∙ pieces-step front s (spell x ++ (flat_map spell xs ++ rest)) ∙ ap (continued (pieces front) (spell x ++ (flat_map spell xs ++ rest))) (one x (flat_map spell xs ++ rest) all.0)
    ∙ ap (λ o. o >>= (λ others. Some (x ∷ others.0, others.1))) (pieces-spelled front s spell P one xs all.1 rest) ∙ with_front-more x xs (pieces front rest)

-- a step that found something
pub bind_some : {A B : Type 0} (o : Option A) (f : A → Option B) (y : B) → (o >>= f) ≡ Some y → (x : A) × (o ≡ Some x) × (f x ≡ Some y)
bind_some None f y e = absurd cc
bind_some (Some x) f y e = (x, refl, e)

pub some_is : {A : Type 0} (x y : A) → Some x ≡ Some y → x ≡ y
some_is x y e = cc

pair_is : {A : Type 0} (found : A × List ℕ) (x : A) (rest : List ℕ) → Piece found.0 found.1 ≡ Piece x rest → found ≡ (x, rest)
pair_is found x rest e =
    let first : found.0 ≡ x = cc in
    let second : found.1 ≡ rest = cc in
    ap (λ a. (a, found.1)) first ∙ ap (λ b. (x, b)) second

-- a piece is what a reading found
pub piece_is : {A : Type 0} (found : Option (A × List ℕ)) (x : A) (rest : List ℕ) → piece_or_fault found ≡ Piece x rest → found ≡ Some (x, rest)
piece_is None x rest e = absurd cc
piece_is (Some found) x rest e = ap Some (pair_is found x rest e)

-- so many bytes are no more than there are
pub bytes_at-shrinks : (n : ℕ) (bytes : List ℕ) (found : List ℕ × List ℕ) → bytes_at n bytes ≡ Some found → length found.1 ≤ length bytes
bytes_at-shrinks n bytes found e =
    let step = bind_some (provided (nat_le n (length bytes))) (λ _. Some (take n bytes, drop n bytes)) found e in
    let same : (take n bytes, drop n bytes) ≡ found = some_is _ _ step.2 in
    let rest : drop n bytes ≡ found.1 = ap (λ (p : List ℕ × List ℕ). p.1) same in
    omega (arith, ap length rest, length-drop n bytes)

-- what follows the bytes changes nothing of the piece at their front
pub record Extends {A : Type 0} (front : List ℕ → Front A) : Type 0 where
  pub longer : (bytes rest more : List ℕ) (x : A) → front bytes ≡ Piece x rest → front (bytes ++ more) ≡ Piece x (rest ++ more)

Extended : {A : Type 0} (front : List ℕ → Front A) (bytes : List ℕ) → Type 0
Extended {A} front bytes = (more : List ℕ) (xs : List A) → pieces front bytes ≡ Some (xs, []) → pieces front (bytes ++ more) ≡ with_front xs (pieces front more)

list_pair : {A : Type 0} (x y : List A × List ℕ) → Some x ≡ Some y → (x.0 ≡ y.0) × (x.1 ≡ y.1)
list_pair x y e = let same : x ≡ y = some_is x y e in (ap (λ p. p.0) same, ap (λ p. p.1) same)

extended-by_front : {A : Type 0} (front : List ℕ → Front A) → Shrinks front → Extends front → (bytes more : List ℕ) (xs : List A) (f : Front A) → front bytes ≡ f
    → continued (pieces front) bytes f ≡ Some (xs, []) → ((rest : List ℕ) → length rest < length bytes → Extended front rest) → pieces front (bytes ++ more) ≡ with_front xs (pieces front more)
unfolding Extended
extended-by_front front s l bytes more xs End at_front found again =
    let same = list_pair _ _ found in
    ap (λ bs. pieces front (bs ++ more)) same.1 ∙ with_front-none (pieces front more) ∙ ap (λ ys. with_front ys (pieces front more)) same.0
extended-by_front front s l bytes more xs (Piece x rest) at_front found again =
    let step = bind_some (pieces front rest) (λ others. Some (x ∷ others.0, others.1)) (xs, []) found in
    let same = list_pair _ _ step.2 in
    let ends : pieces front rest ≡ Some (step.0.0, []) = step.1 ∙ ap (λ left. Some (step.0.0, left)) same.1 in
    let shorter = s.shorter bytes rest x at_front in
    pieces-step front s (bytes ++ more) ∙ ap (continued (pieces front) (bytes ++ more)) (l.longer bytes rest more x at_front)
    ∙ ap (λ o. o >>= (λ others. Some (x ∷ others.0, others.1))) (again rest shorter more step.0.0 ends)
    ∙ with_front-more x step.0.0 (pieces front more) ∙ ap (λ ys. with_front ys (pieces front more)) same.0
extended-by_front front s l bytes more xs Fault at_front found again = absurd cc

extended-upto : {A : Type 0} (front : List ℕ → Front A) → Shrinks front → Extends front → (n : ℕ) (bytes : List ℕ) → length bytes ≤ n → Extended front bytes
unfolding Extended
extended-upto front s l zero bytes fits more xs e =
    extended-by_front front s l bytes more xs (front bytes) refl (sym (pieces-step front s bytes) ∙ e) (λ rest less. absurd (omega arith))
extended-upto front s l (suc n) bytes fits more xs e =
    extended-by_front front s l bytes more xs (front bytes) refl (sym (pieces-step front s bytes) ∙ e) (λ rest less. extended-upto front s l n rest (omega arith))

-- where bytes are pieces to their end, those of what follows come after them
pub pieces-extended : {A : Type 0} (front : List ℕ → Front A) → Shrinks front → Extends front → (bytes more : List ℕ) (xs : List A)
    → pieces front bytes ≡ Some (xs, []) → pieces front (bytes ++ more) ≡ with_front xs (pieces front more)
unfolding Extended
pieces-extended front s l bytes more xs e = extended-upto front s l (length bytes) bytes (omega arith) more xs e

-- where a test lets a reading go on, it holds
pub provided-true : (b : Bool) (x : Unit {0}) → provided b ≡ Some x → b ≡ true
provided-true true x e = refl
provided-true false x e = absurd cc

-- where there are so many bytes, they are found
pub bytes_at-front : (n : ℕ) (bytes : List ℕ) → n ≤ length bytes → bytes_at n bytes ≡ Some (take n bytes, drop n bytes)
bytes_at-front n bytes fits = ap (λ b. provided b >>= (λ _. Some (take n bytes, drop n bytes))) (le-leb n (length bytes) fits)

-- all of some bytes, whatever follows them
pub bytes_at-again : (bytes rest : List ℕ) → bytes_at (length bytes) (bytes ++ rest) ≡ Some (bytes, rest)
bytes_at-again bytes rest =
    bytes_at-front (length bytes) (bytes ++ rest) (omega (arith, length-append bytes rest))
    ∙ ap (λ front. Some (front, drop (length bytes) (bytes ++ rest))) (take-append_seam bytes rest) ∙ ap (λ back. Some (bytes, back)) (drop-append_seam bytes rest)

-- the value of `&bytes[n..]`
pub rest_is : (n : ℕ) (bytes : List ℕ) → take (length bytes - n) (drop n bytes) ≡ drop n bytes
rest_is n bytes = take_all (length bytes - n) (drop n bytes) (simp length-drop (omega arith))
