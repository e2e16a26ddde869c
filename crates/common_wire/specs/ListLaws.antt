-- A reader of contracts may skip this file: the laws of texts and lists.
use Rattle.std.proofs.Common.{◌≡◌, ℕ, zero, suc, ◌≤◌, List, [], ◌∷◌, ◌++◌, length, map, Bool, refl, ap, ◌∙◌, arith, append_assoc}
use Rattle.std.proofs.lemmas.List.{length-map}
use Rattle.std.specs.Prelude.{nat_le, All, IsUtf8}
use Rattle.std.specs.List.{flat_map}
use Rattle.std.specs.Str.{is_utf8}
use Rattle.std.proofs.lemmas.Bool.{le-leb}
use Rattle.std.proofs.lemmas.Str.{is_utf8-from_IsUtf8}
use Rattle.common_wire.specs.Taking.{Taking, Value, continued, ◌>>=◌, give, only_if, bytes_of, counted}
use Rattle.common_wire.specs.Wire.{vint, vint_bytes, length_taken, max_length, text, text_of, text_bytes, blob, list_of, list_bytes}
use Rattle.common_wire.specs.Serialized.{IsTaking}
use Rattle.common_wire.specs.TakingLaws.{IsTaking-give, IsTaking-then, IsTaking-only_if, IsTaking-bytes_of, IsTaking-counted, bytes_of-again}
use Rattle.common_wire.specs.GroupLaws.{IsTaking-vint, vint-again}

pub IsTaking-length : IsTaking length_taken
unfolding length_taken
IsTaking-length = IsTaking-then vint _ IsTaking-vint (λ n. IsTaking-only_if (nat_le n max_length) (give n) (IsTaking-give n))

pub IsTaking-text_of : (n : ℕ) → IsTaking (text_of n)
unfolding text_of
IsTaking-text_of n = IsTaking-then (bytes_of n) _ (IsTaking-bytes_of n) (λ piece. IsTaking-only_if (is_utf8 piece) (give piece) (IsTaking-give piece))

pub IsTaking-text : IsTaking text
unfolding text
IsTaking-text = IsTaking-then length_taken _ IsTaking-length (λ n. IsTaking-text_of n)

pub IsTaking-list : {A : Type 0} (item : Taking A) → IsTaking item → IsTaking (list_of item)
unfolding list_of
IsTaking-list item p = IsTaking-then length_taken _ IsTaking-length (λ n. IsTaking-counted n item p)

pub length-again : (n : ℕ) (rest : List ℕ) → n ≤ max_length → length_taken (vint_bytes n ++ rest) ≡ Value n rest
unfolding length_taken
length-again n rest h =
    ap (λ taken. continued taken (λ m. only_if (nat_le m max_length) (give m))) (vint-again n rest (omega arith))
    ∙ ap (λ (b : Bool). only_if b (give n) rest) (le-leb n max_length h)

pub text-again : (bytes rest : List ℕ) → IsUtf8 bytes → length bytes ≤ max_length → text (text_bytes bytes ++ rest) ≡ Value bytes rest
unfolding text text_of text_bytes
text-again bytes rest utf8 fits =
    ap (λ l. continued (length_taken l) text_of) (append_assoc (vint_bytes (length bytes)) bytes rest)
    ∙ ap (λ taken. continued taken text_of) (length-again (length bytes) (bytes ++ rest) fits)
    ∙ ap (λ taken. continued taken (λ piece. only_if (is_utf8 piece) (give piece))) (bytes_of-again bytes rest)
    ∙ ap (λ (b : Bool). only_if b (give bytes) rest) (is_utf8-from_IsUtf8 bytes utf8)

counted-again : {A : Type 0} (item : Taking A) (wire : A → List ℕ) (written : A → A) (fits can : A → Type 0) → ((x : A) (rest : List ℕ) → fits x → can x → item (wire (written x) ++ rest) ≡ Value (written x) rest)
    → (xs : List A) (rest : List ℕ) → All fits xs → All can xs → counted (length xs) item (flat_map wire (map written xs) ++ rest) ≡ Value (map written xs) rest
unfolding counted
counted-again item wire written fits can again [] rest all_fit all_can = refl
counted-again {A = A} item wire written fits can again (x ∷ xs) rest all_fit all_can =
    let next : A → Taking (List A) = λ first. counted (length xs) item >>= (λ others. give (first ∷ others)) in
    ap (λ l. continued (item l) next) (append_assoc (wire (written x)) (flat_map wire (map written xs)) rest)
    ∙ ap (λ taken. continued taken next) (again x (flat_map wire (map written xs) ++ rest) (all_fit zero x (omega arith)) (all_can zero x (omega arith)))
    ∙ ap (λ taken. continued taken (λ others. give (written x ∷ others)))
    (counted-again item wire written fits can again xs rest (λ k d h. all_fit (suc k) d (omega arith)) (λ k d h. all_can (suc k) d (omega arith)))

pub list-again : {A : Type 0} (item : Taking A) (wire : A → List ℕ) (written : A → A) (fits can : A → Type 0) → ((x : A) (rest : List ℕ) → fits x → can x → item (wire (written x) ++ rest) ≡ Value (written x) rest)
    → (xs : List A) (rest : List ℕ) → All fits xs → length xs ≤ max_length → All can xs → list_of item (list_bytes wire (map written xs) ++ rest) ≡ Value (map written xs) rest
unfolding list_of list_bytes
list-again item wire written fits can again xs rest all_fit short all_can =
    let long : length (map written xs) ≡ length xs = length-map xs written in
    ap (λ n. continued (length_taken (vint_bytes n ++ flat_map wire (map written xs) ++ rest)) (λ m. counted m item)) long
    ∙ ap (λ l. continued (length_taken l) (λ m. counted m item)) (append_assoc (vint_bytes (length xs)) (flat_map wire (map written xs)) rest)
    ∙ ap (λ taken. continued taken (λ m. counted m item)) (length-again (length xs) (flat_map wire (map written xs) ++ rest) short)
    ∙ counted-again item wire written fits can again xs rest all_fit all_can

pub IsTaking-blob : IsTaking blob
unfolding blob
IsTaking-blob = IsTaking-then length_taken _ IsTaking-length (λ n. IsTaking-bytes_of n)

pub blob-again : (bytes rest : List ℕ) → length bytes ≤ max_length → blob (text_bytes bytes ++ rest) ≡ Value bytes rest
unfolding blob text_bytes
blob-again bytes rest fits =
    ap (λ l. continued (length_taken l) bytes_of) (append_assoc (vint_bytes (length bytes)) bytes rest)
    ∙ ap (λ taken. continued taken bytes_of) (length-again (length bytes) (bytes ++ rest) fits) ∙ bytes_of-again bytes rest
