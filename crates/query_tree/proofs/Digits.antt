-- Zeros are taken off one at a time, and what is left is a number in decimal.
use Rattle.std.specs.Prelude.{Option, Some, None, MatchOption, IfSome, IfNone}
use Rattle.std.specs.List.{list_all}
use Rattle.std.specs.Char.{is_ascii_digit}
use Rattle.std.proofs.Common.{◌≡◌, ◌≢◌, ◌∙◌, sym, ap, refl, ℕ, Bool, true, false, ◌&&◌, ◌==◌, cond, List, [], ◌∷◌, ◌++◌, reverse}
use Rattle.std.proofs.lemmas.Bool.Decides.{Decides-eqb}
use Rattle.std.proofs.lemmas.List.{reverse-reverse, reverse-append}
use Rattle.std.proofs.lemmas.List.Folds.{list_all-append}
use Rattle.std.proofs.lemmas.Bool.{and_parts, and_from}
use Rattle.query_tree.specs.Decimals.{AreDigits, trimmed_front, at_least_zero, trimmed_whole, trimmed_back, IsDecimal}

-- what is known of both, of each
pub none_of : {A : Type 0} (P : Type 0) (Q : A → Type 0) (r : Option A) → MatchOption r P Q → IfNone r P
none_of P Q None h = h
none_of P Q (Some x) h = tt

pub some_of : {A : Type 0} (P : Type 0) (Q : A → Type 0) (r : Option A) → MatchOption r P Q → IfSome r Q
some_of P Q None h = tt
some_of P Q (Some x) h = h

pub front_turn : (digits rest : List ℕ) → digits ≡ 48 ∷ rest → trimmed_front digits ≡ trimmed_front rest
front_turn digits rest h = ap trimmed_front h

pub front_ends : (digits : List ℕ) → ((rest : List ℕ) → digits ≢ 48 ∷ rest) → trimmed_front digits ≡ digits
front_ends [] h = refl
front_ends (d ∷ ds) h =
    let by : (b : Bool) → (d == 48) ≡ b → trimmed_front (d ∷ ds) ≡ d ∷ ds =
    λ b. elim b as (λ v. (d == 48) ≡ v → trimmed_front (d ∷ ds) ≡ d ∷ ds) [
      | true ↦ λ e. absurd (h ds (ap (λ x. x ∷ ds) ((Decides-eqb d 48).0 e)))
      | false ↦ λ e. rw e
    ]
    in by (d == 48) refl

pub back_turn : (digits front : List ℕ) → digits ≡ front ++ 48 ∷ [] → trimmed_back digits ≡ trimmed_back front
back_turn digits front h = ap (λ x. reverse (trimmed_front x)) (ap reverse h ∙ reverse-append front (48 ∷ []))

pub back_ends : (digits : List ℕ) → ((front : List ℕ) → digits ≢ front ++ 48 ∷ []) → trimmed_back digits ≡ digits
back_ends digits h =
    let nothing : (rest : List ℕ) → reverse digits ≢ 48 ∷ rest = λ rest e. h (reverse rest) (sym (reverse-reverse digits) ∙ ap reverse e ∙ reverse-append (48 ∷ []) rest) in
    ap reverse (front_ends (reverse digits) nothing) ∙ reverse-reverse digits

-- ---- what is left

front_digits : (digits : List ℕ) → AreDigits digits → AreDigits (trimmed_front digits)
front_digits [] h = h
front_digits (d ∷ ds) h =
    let parts = and_parts (is_ascii_digit d) (list_all is_ascii_digit ds) h in
    let by : (b : Bool) → AreDigits (cond b (trimmed_front ds) (d ∷ ds)) = λ b. elim b as (λ v. AreDigits (cond v (trimmed_front ds) (d ∷ ds))) [ true ↦ front_digits ds parts.1 | false ↦ h ]
    in by (d == 48)

zero_digits : (digits : List ℕ) → AreDigits digits → AreDigits (at_least_zero digits)
zero_digits [] h = refl
zero_digits (d ∷ ds) h = h

all_reverse : (digits : List ℕ) → AreDigits digits → AreDigits (reverse digits)
all_reverse [] h = h
all_reverse (d ∷ ds) h =
    let parts = and_parts (is_ascii_digit d) (list_all is_ascii_digit ds) h in
    ap (list_all is_ascii_digit) (reverse-append (d ∷ []) ds) ∙ list_all-append is_ascii_digit (reverse ds) (d ∷ [])
    ∙ ap (λ b. b && (is_ascii_digit d && true)) (all_reverse ds parts.1) ∙ ap (λ b. b && true) parts.0

front_twice : (digits : List ℕ) → trimmed_front (trimmed_front digits) ≡ trimmed_front digits
front_twice [] = refl
front_twice (d ∷ ds) =
    let by : (b : Bool) → (d == 48) ≡ b → trimmed_front (cond b (trimmed_front ds) (d ∷ ds)) ≡ cond b (trimmed_front ds) (d ∷ ds) =
    λ b. elim b as (λ v. (d == 48) ≡ v → trimmed_front (cond v (trimmed_front ds) (d ∷ ds)) ≡ cond v (trimmed_front ds) (d ∷ ds)) [ true ↦ λ e. front_twice ds | false ↦ λ e. rw e ]
    in by (d == 48) refl

whole_kept : (digits : List ℕ) → trimmed_front digits ≡ digits → trimmed_whole (at_least_zero digits) ≡ at_least_zero digits
whole_kept [] h = refl
whole_kept (d ∷ ds) h = ap at_least_zero h

back_twice : (digits : List ℕ) → trimmed_back (trimmed_back digits) ≡ trimmed_back digits
back_twice digits = ap (λ x. reverse (trimmed_front x)) (reverse-reverse (trimmed_front (reverse digits))) ∙ ap reverse (front_twice (reverse digits))

pub trimmed_valid : (whole fraction : List ℕ) → AreDigits whole → AreDigits fraction → IsDecimal (trimmed_whole whole) (trimmed_back fraction)
trimmed_valid whole fraction digits more = record {
  whole_digits = zero_digits (trimmed_front whole) (front_digits whole digits);
  fraction_digits = all_reverse (trimmed_front (reverse fraction)) (front_digits (reverse fraction) (all_reverse fraction more));
  no_zero_in_front = whole_kept (trimmed_front whole) (front_twice whole);
  no_zero_behind = back_twice fraction;
}
