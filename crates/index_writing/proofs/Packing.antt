-- Numbers that are packed list by list.
use Rattle.std.proofs.Common.{◌≡◌, ℕ, ◌+◌, ◌^◌, ◌<◌, List, [], ◌∷◌, ◌++◌, length, Some, All, sym, ap, subst, ◌∙◌, arith, take, drop, get_or, append_assoc, append-nil}
use Rattle.std.proofs.lemmas.Grind.{flat_map-append}
use Rattle.std.proofs.lemmas.List.{take_more, map-append}
use Rattle.std.proofs.lemmas.List.Elements.{All-cons, All-head, All-tail}
use Rattle.owned_bytes.specs.Keys.{Key}
use Rattle.tantivy_bitpacker.specs.Packed.{Bits, HasPacked, PacksNext, FitWidth, at_width}
use Rattle.index_writing.specs.Emitting.{numbers_of_all, PacksAll}
use Rattle.index_writing.proofs.Inserts.{split-at}

-- ---- one list

pub pack-none : (width : ℕ) (held : Bits) (told : List ℕ) → PacksAll width [] held held told told
pack-none width held told pieces before has = subst (λ ps. HasPacked ps held before (Some told)) (sym (append-nil pieces)) has

one-more : (width : ℕ) (numbers : List ℕ) (i : ℕ) → i < length numbers → at_width width (take (i + 1) numbers) ≡ at_width width (take i numbers) ++ (get_or numbers i 0, width) ∷ []
one-more width numbers i within = ap (at_width width) (take_more numbers i 0 within) ∙ map-append (λ value. (value, width)) (take i numbers) (get_or numbers i 0 ∷ [])

pub pack-more : (width : ℕ) (numbers : List ℕ) (i : ℕ) (held middle now : Bits) (told between after : List ℕ) → i < length numbers → PacksAll width (take i numbers) held middle told between
    → PacksNext (get_or numbers i 0) width middle now (Some between) (Some after) → PacksAll width (take (i + 1) numbers) held now told after
pack-more width numbers i held middle now told between after within all next pieces before has =
    let both = append_assoc pieces (at_width width (take i numbers)) ((get_or numbers i 0, width) ∷ []) ∙ ap (λ ps. pieces ++ ps) (sym (one-more width numbers i within)) in
    subst (λ ps. HasPacked ps now before (Some after)) both (next (pieces ++ at_width width (take i numbers)) before (all pieces before has))

-- ---- a list behind those before it

all-of-more : (ps : List (Key × List ℕ)) (i : ℕ) (p : Key × List ℕ) → i < length ps → p ≡ get_or ps i p → numbers_of_all (take (i + 1) ps) ≡ numbers_of_all (take i ps) ++ p.1
all-of-more ps i p within at =
    ap numbers_of_all (take_more ps i p within ∙ ap (λ q. take i ps ++ q ∷ []) (sym at))
    ∙ flat_map-append (λ (posting : Key × List ℕ). posting.1) (take i ps) (p ∷ []) ∙ ap (λ ns. numbers_of_all (take i ps) ++ ns) (append-nil p.1)

pub pack-posting : (width : ℕ) (ps : List (Key × List ℕ)) (i : ℕ) (p : Key × List ℕ) (numbers : List ℕ) (held now : Bits) (told between after : List ℕ) → i < length ps → p ≡ get_or ps i p → numbers ≡ p.1
    → HasPacked (at_width width (numbers_of_all (take i ps))) held (Some told) (Some between) → PacksAll width numbers held now between after
    → HasPacked (at_width width (numbers_of_all (take (i + 1) ps))) now (Some told) (Some after)
pack-posting width ps i p numbers held now told between after within at is has all =
    let front = numbers_of_all (take i ps) in
    let same : at_width width front ++ at_width width numbers ≡ at_width width (numbers_of_all (take (i + 1) ps)) =
    sym (map-append (λ value. (value, width)) front numbers) ∙ ap (λ ns. at_width width (front ++ ns)) is ∙ ap (at_width width) (sym (all-of-more ps i p within at)) in
    subst (λ ps. HasPacked ps now (Some told) (Some after)) same (all (at_width width front) (Some told) has)

-- ---- each list fits

all-front : (P : ℕ → Type 0) (xs ys : List ℕ) → All P (xs ++ ys) → All P xs
all-front P [] ys all = λ k d within. absurd (omega (arith, within))
all-front P (x ∷ xs) ys all = All-cons P x xs (All-head P x (xs ++ ys) all) (all-front P xs ys (All-tail P x (xs ++ ys) all))

all-back : (P : ℕ → Type 0) (xs ys : List ℕ) → All P (xs ++ ys) → All P ys
all-back P [] ys all = all
all-back P (x ∷ xs) ys all = all-back P xs ys (All-tail P x (xs ++ ys) all)

pub fit-posting : (width : ℕ) (ps : List (Key × List ℕ)) (i : ℕ) (p : Key × List ℕ) (numbers : List ℕ) → i < length ps → p ≡ get_or ps i p → numbers ≡ p.1
    → FitWidth width (numbers_of_all ps) → FitWidth width numbers
fit-posting width ps i p numbers within at is fits =
    let parts : numbers_of_all ps ≡ numbers_of_all (take i ps) ++ (p.1 ++ numbers_of_all (drop (i + 1) ps)) =
    ap numbers_of_all (split-at ps i p within at) ∙ flat_map-append (λ (posting : Key × List ℕ). posting.1) (take i ps) (p ∷ drop (i + 1) ps) in
    subst (FitWidth width) (sym is) (all-front (λ n. n < 2 ^ width) p.1 (numbers_of_all (drop (i + 1) ps)) (all-back (λ n. n < 2 ^ width) (numbers_of_all (take i ps)) (p.1 ++ numbers_of_all (drop (i + 1) ps)) (subst (FitWidth width) parts fits)))
