-- A reader of contracts may skip this file: the laws of takings.
use Rattle.std.proofs.Common.{◌≡◌, ℕ, zero, suc, ◌≤◌, List, [], ◌∷◌, ◌++◌, length, take, drop, Bool, true, false, refl, ap, sym, ◌∙◌, arith, append_assoc, append-nil, length-append, take-append-drop, length-take-le}
use Rattle.std.specs.Prelude.{nat_le, if◌then◌else◌}
use Rattle.std.proofs.lemmas.Bool.{leb-true, le-leb}
use Rattle.std.proofs.lemmas.List.{take_at, drop_at}
use Rattle.common_wire.specs.Taking.{Taken, Value, Cut, Wrong, Taking, continued, ◌>>=◌, give, refuse, only_if, byte, bytes_of, counted}
use Rattle.common_wire.specs.Serialized.{IsTaking}

pub value_is : {A : Type 0} (x y : A) (a b : List ℕ) → Value x a ≡ Value y b → (x ≡ y) × (a ≡ b)
value_is x y a b e = (cc, cc)

pub IsTaking-give : {A : Type 0} (x : A) → IsTaking (give x)
IsTaking-give x = record {
  front = λ bytes rest y e. ([], (value_is x y bytes rest e).1, ap (λ v. Value v []) (value_is x y bytes rest e).0);
  longer = λ bytes rest more y e. let same = value_is x y bytes rest e in ap (λ v. Value v (bytes ++ more)) same.0 ∙ ap (λ r. Value y (r ++ more)) same.1;
  wrong = λ bytes more e. absurd cc;
}

pub IsTaking-refuse : {A : Type 0} → IsTaking (refuse {A = A})
IsTaking-refuse = record { front = λ bytes rest y e. absurd cc; longer = λ bytes rest more y e. absurd cc; wrong = λ bytes more e. refl }

byte_front : (bytes rest : List ℕ) (x : ℕ) → byte bytes ≡ Value x rest → (spelling : List ℕ) × (bytes ≡ spelling ++ rest) × (byte spelling ≡ Value x [])
byte_front [] rest x e = absurd cc
byte_front (b ∷ bytes) rest x e = let same = value_is b x bytes rest e in (b ∷ [], ap (λ l. b ∷ l) same.1, ap (λ v. Value v []) same.0)

byte_longer : (bytes rest more : List ℕ) (x : ℕ) → byte bytes ≡ Value x rest → byte (bytes ++ more) ≡ Value x (rest ++ more)
byte_longer [] rest more x e = absurd cc
byte_longer (b ∷ bytes) rest more x e = let same = value_is b x bytes rest e in ap (λ v. Value v (bytes ++ more)) same.0 ∙ ap (λ r. Value x (r ++ more)) same.1

byte_wrong : (bytes more : List ℕ) → byte bytes ≡ Wrong → byte (bytes ++ more) ≡ Wrong
byte_wrong [] more e = absurd cc
byte_wrong (b ∷ bytes) more e = absurd cc

pub IsTaking-byte : IsTaking byte
IsTaking-byte = record { front = byte_front; longer = byte_longer; wrong = byte_wrong }

-- there are so many bytes, or the bytes end before
bytes_of_cases : {P : Type 0} (n : ℕ) (bytes rest x : List ℕ) → bytes_of n bytes ≡ Value x rest → (n ≤ length bytes → x ≡ take n bytes → rest ≡ drop n bytes → P) → P
bytes_of_cases {P} n bytes rest x e go = by (nat_le n (length bytes)) refl e
  where
    by : (b : Bool) → nat_le n (length bytes) ≡ b → (if b then Value (take n bytes) (drop n bytes) else Cut) ≡ Value x rest → P
    by true there found = let same = value_is (take n bytes) x (drop n bytes) rest found in go (leb-true n (length bytes) there) (sym same.0) (sym same.1)
    by false there found = absurd cc

pub bytes_of-enough : (n : ℕ) (bytes : List ℕ) → n ≤ length bytes → bytes_of n bytes ≡ Value (take n bytes) (drop n bytes)
bytes_of-enough n bytes h = ap (λ (b : Bool). if b then Value (take n bytes) (drop n bytes) else Cut) (le-leb n (length bytes) h)

-- the bytes themselves, whatever follows
pub bytes_of-again : (bytes rest : List ℕ) → bytes_of (length bytes) (bytes ++ rest) ≡ Value bytes rest
bytes_of-again bytes rest =
    bytes_of-enough (length bytes) (bytes ++ rest) (omega (arith, length-append bytes rest))
    ∙ ap (λ x. Value x (drop (length bytes) (bytes ++ rest))) (take_at bytes rest (length bytes) refl) ∙ ap (λ r. Value bytes r) (drop_at bytes rest (length bytes) refl)

bytes_of_front : (n : ℕ) (bytes rest x : List ℕ) → bytes_of n bytes ≡ Value x rest → (spelling : List ℕ) × (bytes ≡ spelling ++ rest) × (bytes_of n spelling ≡ Value x [])
bytes_of_front n bytes rest x e = bytes_of_cases n bytes rest x e (λ there is left.
    let split : bytes ≡ x ++ rest = sym (take-append-drop n bytes) ∙ ap (λ l. l ++ drop n bytes) (sym is) ∙ ap (λ l. x ++ l) (sym left) in
    let long : length x ≡ n = ap length is ∙ length-take-le n bytes there in
    (x, split, ap (λ m. bytes_of m x) (sym long) ∙ ap (bytes_of (length x)) (sym (append-nil x)) ∙ bytes_of-again x []))

bytes_of_longer : (n : ℕ) (bytes rest more x : List ℕ) → bytes_of n bytes ≡ Value x rest → bytes_of n (bytes ++ more) ≡ Value x (rest ++ more)
bytes_of_longer n bytes rest more x e = bytes_of_cases n bytes rest x e (λ there is left.
    let split : bytes ≡ x ++ rest = sym (take-append-drop n bytes) ∙ ap (λ l. l ++ drop n bytes) (sym is) ∙ ap (λ l. x ++ l) (sym left) in
    let long : length x ≡ n = ap length is ∙ length-take-le n bytes there in
    ap (λ m. bytes_of m (bytes ++ more)) (sym long) ∙ ap (λ l. bytes_of (length x) (l ++ more)) split ∙ ap (bytes_of (length x)) (append_assoc x rest more) ∙ bytes_of-again x (rest ++ more))

bytes_of_wrong : (n : ℕ) (bytes more : List ℕ) → bytes_of n bytes ≡ Wrong → bytes_of n (bytes ++ more) ≡ Wrong
bytes_of_wrong n bytes more e = by (nat_le n (length bytes)) e
  where
    by : (b : Bool) → (if b then Value (take n bytes) (drop n bytes) else Cut) ≡ Wrong → bytes_of n (bytes ++ more) ≡ Wrong
    by true found = absurd cc
    by false found = absurd cc

pub IsTaking-bytes_of : (n : ℕ) → IsTaking (bytes_of n)
IsTaking-bytes_of n = record { front = bytes_of_front n; longer = bytes_of_longer n; wrong = bytes_of_wrong n }

-- a value that was taken after another
pub continued_value : {A B : Type 0} (taken : Taken A) (next : A → Taking B) (y : B) (rest : List ℕ) → continued taken next ≡ Value y rest
    → (x : A) × (middle : List ℕ) × (taken ≡ Value x middle) × (next x middle ≡ Value y rest)
continued_value (Value x middle) next y rest e = (x, middle, refl, e)
continued_value Cut next y rest e = absurd cc
continued_value Wrong next y rest e = absurd cc

pub IsTaking-then : {A B : Type 0} (taking : Taking A) (next : A → Taking B) → IsTaking taking → ((x : A) → IsTaking (next x)) → IsTaking (taking >>= next)
IsTaking-then {A} {B} taking next p q = record { front = front; longer = longer; wrong = λ bytes more e. wrong_by bytes more (taking bytes) refl e }
  where
    front : (bytes rest : List ℕ) (y : B) → (taking >>= next) bytes ≡ Value y rest → (spelling : List ℕ) × (bytes ≡ spelling ++ rest) × ((taking >>= next) spelling ≡ Value y [])
    front bytes rest y e =
        let (x, middle, first, second) = continued_value (taking bytes) next y rest e in
        let (before, split, alone) = p.front bytes middle x first in
        let (after, split2, alone2) = (q x).front middle rest y second in
        (before ++ after, split ∙ ap (λ l. before ++ l) split2 ∙ sym (append_assoc before after rest), ap (λ taken. continued taken next) (p.longer before [] after x alone) ∙ alone2)

    longer : (bytes rest more : List ℕ) (y : B) → (taking >>= next) bytes ≡ Value y rest → (taking >>= next) (bytes ++ more) ≡ Value y (rest ++ more)
    longer bytes rest more y e =
        let (x, middle, first, second) = continued_value (taking bytes) next y rest e in
        ap (λ taken. continued taken next) (p.longer bytes middle more x first) ∙ (q x).longer middle rest more y second

    wrong_by : (bytes more : List ℕ) (taken : Taken A) → taking bytes ≡ taken → continued taken next ≡ Wrong → (taking >>= next) (bytes ++ more) ≡ Wrong
    wrong_by bytes more (Value x middle) is e = ap (λ taken. continued taken next) (p.longer bytes middle more x is) ∙ (q x).wrong middle more e
    wrong_by bytes more Cut is e = absurd cc
    wrong_by bytes more Wrong is e = ap (λ taken. continued taken next) (p.wrong bytes more is)

pub IsTaking-if : {A : Type 0} (b : Bool) (then_taking else_taking : Taking A) → IsTaking then_taking → IsTaking else_taking → IsTaking (if b then then_taking else else_taking)
IsTaking-if true _ _ p q = p
IsTaking-if false _ _ p q = q

pub IsTaking-only_if : {A : Type 0} (b : Bool) (next : Taking A) → IsTaking next → IsTaking (only_if b next)
IsTaking-only_if b next p = IsTaking-if b next refuse p IsTaking-refuse

pub IsTaking-counted : {A : Type 0} (n : ℕ) (item : Taking A) → IsTaking item → IsTaking (counted n item)
unfolding counted
IsTaking-counted zero item p = IsTaking-give []
IsTaking-counted (suc n) item p = IsTaking-then item _ p (λ first. IsTaking-then (counted n item) _ (IsTaking-counted n item p) (λ others. IsTaking-give (first ∷ others)))
