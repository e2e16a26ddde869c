-- A printed range is read again.
use Rattle.std.proofs.Common.{◌≡◌, ◌∙◌, sym, ap, refl, ℕ, zero, suc, ◌+◌, ◌≤◌, Bool, true, false, not, ◌&&◌, ◌==◌, cond, ltb, List, [], ◌∷◌, ◌++◌, length, length-append, append_assoc, arith, eqb-true, eq-eqb, true≢false, Option, Some, None}
use lib.Utf8
use Rattle.std.specs.Prelude.{encode_utf8, encode_utf8_all, codes}
use Rattle.std.specs.Char.{is_ascii_digit}
use Rattle.std.specs.List.{list_all}
use Rattle.std.specs.Str.{bytes_eq}
use Rattle.std.proofs.lemmas.Slice.Eq.{bytes_eq-Decides}
use Rattle.query_tree.specs.Characters.{minus, dot, star, backquote, open_square, open_brace, close_square, close_brace, is_space, is_other_than, is_bound_character}
use Rattle.query_tree.specs.Reader.{Found, Failed, Reader, ◌>>◌, one, skip, tag, joined_up_to, joined}
use Rattle.query_tree.specs.Grammar.{spelled, digit, digits, fraction, negative_number, bound, bounded, bracket, started, range, half_range, full_range, sign, bare_leaf, negative_text, some_spaces}
use Rattle.query_tree.specs.declared.tree.UserInputLeaf.{UserInputLeaf}
use Rattle.query_tree.specs.declared.tree.UserInputLeaf.TheVariants as leaf
use Rattle.query_tree.specs.Printing.{Bound, Inclusive, Exclusive, Unbounded, printed_lower, printed_upper}
use Rattle.printed_queries.specs.Meaning.{are_digits, is_fraction, is_plain_after, is_star, is_plain_word, is_plain_bound, bytes_of}
use Rattle.printed_queries.proofs.Fields.{split_and, opposite}

-- ---- as many as pass a test

abbrev front : (ℕ → Bool) → List ℕ → List ℕ
front test [] = []
front test (c ∷ cs) = cond (test c) (c ∷ front test cs) []

front_step : (test : ℕ → Bool) (n c : ℕ) (cs rest : List ℕ)
    → joined_up_to n (spelled (one test)) (cs ++ rest) ≡ Found (encode_utf8_all (front test cs)) (skip test cs ++ rest)
    → joined_up_to (suc n) (spelled (one test)) ((c ∷ cs) ++ rest) ≡ Found (encode_utf8_all (front test (c ∷ cs))) (skip test (c ∷ cs) ++ rest)
unfolding joined_up_to one skip
front_step test n c cs rest again =
    let by : (b : Bool) → test c ≡ b → joined_up_to (suc n) (spelled (one test)) ((c ∷ cs) ++ rest) ≡ Found (encode_utf8_all (cond b (c ∷ front test cs) [])) (cond b (skip test cs) (c ∷ cs) ++ rest) =
    λ b. elim b as (λ v. test c ≡ v → joined_up_to (suc n) (spelled (one test)) ((c ∷ cs) ++ rest) ≡ Found (encode_utf8_all (cond v (c ∷ front test cs) [])) (cond v (skip test cs) (c ∷ cs) ++ rest)) [
      | true ↦ λ e. rw (e, again)
      | false ↦ λ e. rw e
    ] in by (test c) refl

front_end : (test : ℕ → Bool) (n e : ℕ) (t : List ℕ) → test e ≡ false → joined_up_to n (spelled (one test)) (e ∷ t) ≡ Found [] (e ∷ t)
unfolding joined_up_to one
front_end test zero e t h = refl
front_end test (suc n) e t h = rw h

front_read : (test : ℕ → Bool) (n : ℕ) (cs : List ℕ) (e : ℕ) (t : List ℕ) → test e ≡ false → length cs ≤ n
    → joined_up_to n (spelled (one test)) (cs ++ e ∷ t) ≡ Found (encode_utf8_all (front test cs)) (skip test cs ++ e ∷ t)
unfolding skip
front_read test n [] e t h k = front_end test n e t h
front_read test zero (c ∷ cs) e t h k = absurd (omega arith)
front_read test (suc n) (c ∷ cs) e t h k = front_step test n c cs (e ∷ t) (front_read test n cs e t h (omega arith))

-- all of them
all_front : (test : ℕ → Bool) (cs : List ℕ) → list_all test cs ≡ true → (front test cs ≡ cs) × (skip test cs ≡ [])
unfolding skip
all_front test [] h = (refl, refl)
all_front test (c ∷ cs) h =
    let parts = split_and (test c) (list_all test cs) h in
    let again = all_front test cs parts.1 in
    let is : test c ≡ true = parts.0 in
    (rw is (ap (λ x. c ∷ x) again.0), rw is again.1)

all_read : (test : ℕ → Bool) (n : ℕ) (cs : List ℕ) (e : ℕ) (t : List ℕ) → list_all test cs ≡ true → test e ≡ false → length cs ≤ n
    → joined_up_to n (spelled (one test)) (cs ++ e ∷ t) ≡ Found (encode_utf8_all cs) (e ∷ t)
all_read test n cs e t all h k =
    let whole = all_front test cs all in
    front_read test n cs e t h k ∙ ap (λ f. Found (encode_utf8_all f) (skip test cs ++ e ∷ t)) whole.0 ∙ ap (λ s. Found (encode_utf8_all cs) (s ++ e ∷ t)) whole.1

enough : (cs t : List ℕ) → length cs ≤ length (cs ++ t)
enough cs t = let parts : length (cs ++ t) ≡ length cs + length t = length-append cs t in omega arith

started_read : (first test : ℕ → Bool) (c : ℕ) (cs : List ℕ) (e : ℕ) (t : List ℕ) → first c ≡ true → list_all test cs ≡ true → test e ≡ false
    → started (spelled (one first)) (spelled (one test)) (c ∷ (cs ++ e ∷ t)) ≡ Found (encode_utf8_all (c ∷ cs)) (e ∷ t)
unfolding one
started_read first test c cs e t is all h =
    let others : joined (spelled (one test)) (cs ++ e ∷ t) ≡ Found (encode_utf8_all cs) (e ∷ t) = all_read test (length (cs ++ e ∷ t)) cs e t all h (enough cs (e ∷ t)) in
    rw (is, others)

-- ---- numbers

minus_bytes : encode_utf8 minus ≡ minus ∷ []
unfolding lib.Utf8.encode
minus_bytes = refl

dot_bytes : encode_utf8 dot ≡ dot ∷ []
unfolding lib.Utf8.encode
dot_bytes = refl

front_back : (test : ℕ → Bool) (cs : List ℕ) → encode_utf8_all (front test cs) ++ encode_utf8_all (skip test cs) ≡ encode_utf8_all cs
unfolding skip
front_back test [] = refl
front_back test (c ∷ cs) =
    let again = front_back test cs in
    let by : (b : Bool) → encode_utf8_all (cond b (c ∷ front test cs) []) ++ encode_utf8_all (cond b (skip test cs) (c ∷ cs)) ≡ encode_utf8_all (c ∷ cs) =
    λ b. elim b as (λ v. encode_utf8_all (cond v (c ∷ front test cs) []) ++ encode_utf8_all (cond v (skip test cs) (c ∷ cs)) ≡ encode_utf8_all (c ∷ cs)) [
      | true ↦ append_assoc (encode_utf8 c) (encode_utf8_all (front test cs)) (encode_utf8_all (skip test cs)) ∙ ap (λ x. encode_utf8 c ++ x) again
      | false ↦ refl
    ] in by (test c)

-- the fraction as bytes
abbrev behind_dot : List ℕ → Option (List ℕ)
behind_dot [] = None
behind_dot (d ∷ ds) = Some (encode_utf8_all ds)

digits_read : (cs : List ℕ) (e : ℕ) (t : List ℕ) → are_digits cs ≡ true → is_ascii_digit e ≡ false → digits (cs ++ e ∷ t) ≡ Found (encode_utf8_all cs) (e ∷ t)
unfolding digits are_digits
digits_read [] e t h k = absurd (true≢false (sym h))
digits_read (c ∷ cs) e t h k =
    let parts = split_and (is_ascii_digit c) (list_all is_ascii_digit cs) h in
    started_read is_ascii_digit is_ascii_digit c cs e t parts.0 parts.1 k

fraction_read : (cs : List ℕ) (e : ℕ) (t : List ℕ) → is_fraction cs ≡ true → is_ascii_digit e ≡ false → e == dot ≡ false → fraction (cs ++ e ∷ t) ≡ Found (behind_dot cs) (e ∷ t)
unfolding fraction is_fraction one
fraction_read [] e t h k no_dot = rw no_dot
fraction_read (d ∷ ds) e t h k no_dot =
    let parts = split_and (d == dot) (are_digits ds) h in
    let is : d == dot ≡ true = parts.0 in
    rw (is, digits_read ds e t parts.1 k)

number_step : (d : ℕ) (ds rest after : List ℕ) (whole : List ℕ) (f : Option (List ℕ)) → digits (d ∷ ds) ≡ Found whole rest → fraction rest ≡ Found f after
    → negative_number (minus ∷ d ∷ ds) ≡ Found (negative_text whole f) after
unfolding negative_number one
number_step d ds rest after whole f by_digits by_fraction = rw (by_digits, by_fraction)

-- where the digits end
digits_front : (d : ℕ) (ds : List ℕ) (e : ℕ) (t : List ℕ) → is_ascii_digit d ≡ true → is_ascii_digit e ≡ false
    → digits (d ∷ (ds ++ e ∷ t)) ≡ Found (encode_utf8 d ++ encode_utf8_all (front is_ascii_digit ds)) (skip is_ascii_digit ds ++ e ∷ t)
unfolding digits one
digits_front d ds e t is h =
    let others : joined digit (ds ++ e ∷ t) ≡ Found (encode_utf8_all (front is_ascii_digit ds)) (skip is_ascii_digit ds ++ e ∷ t) =
    front_read is_ascii_digit (length (ds ++ e ∷ t)) ds e t h (enough ds (e ∷ t)) in
    rw (is, others)

fraction_bytes : (cs : List ℕ) (whole : List ℕ) → is_fraction cs ≡ true → negative_text whole (behind_dot cs) ≡ minus ∷ (whole ++ encode_utf8_all cs)
unfolding is_fraction
fraction_bytes [] whole h = refl
fraction_bytes (d ∷ ds) whole h =
    let is : d ≡ dot = eqb-true d dot (split_and (d == dot) (are_digits ds) h).0 in
    ap (λ x. minus ∷ (whole ++ (x ++ encode_utf8_all ds))) (sym dot_bytes ∙ ap encode_utf8 (sym is))

number_read : (d : ℕ) (ds : List ℕ) (e : ℕ) (t : List ℕ) → is_ascii_digit d ≡ true → is_fraction (skip is_ascii_digit ds) ≡ true → is_ascii_digit e ≡ false → e == dot ≡ false
    → negative_number (minus ∷ d ∷ (ds ++ e ∷ t)) ≡ Found (encode_utf8_all (minus ∷ d ∷ ds)) (e ∷ t)
number_read d ds e t is rest_is no_digit no_dot =
    let whole : List ℕ = encode_utf8 d ++ encode_utf8_all (front is_ascii_digit ds) in
    let rest : List ℕ = skip is_ascii_digit ds in
    let bytes : minus ∷ (whole ++ encode_utf8_all rest) ≡ encode_utf8_all (minus ∷ d ∷ ds) =
    ap (λ x. minus ∷ x) (append_assoc (encode_utf8 d) (encode_utf8_all (front is_ascii_digit ds)) (encode_utf8_all rest) ∙ ap (λ x. encode_utf8 d ++ x) (front_back is_ascii_digit ds))
    ∙ ap (λ x. x ++ (encode_utf8 d ++ encode_utf8_all ds)) (sym minus_bytes) in
    number_step d (ds ++ e ∷ t) (rest ++ e ∷ t) (e ∷ t) whole (behind_dot rest) (digits_front d ds e t is no_digit) (fraction_read rest e t rest_is no_digit no_dot)
    ∙ ap (λ x. Found x (e ∷ t)) (fraction_bytes rest whole rest_is ∙ bytes)

-- ---- bounds

-- what ends a bound
abbrev EndsBound : ℕ → Type 0
EndsBound e = (is_bound_character e ≡ false) × (is_ascii_digit e ≡ false) × (e == dot ≡ false)

no_number : (c : ℕ) (t : List ℕ) → c == minus ≡ false → negative_number (c ∷ t) ≡ Failed
unfolding negative_number one
no_number c t h = rw h

no_digits : (d : ℕ) (t : List ℕ) → is_ascii_digit d ≡ false → negative_number (minus ∷ d ∷ t) ≡ Failed
unfolding negative_number digits one
no_digits d t h = rw h

word_read : (c : ℕ) (cs : List ℕ) (e : ℕ) (t : List ℕ) → (list_all is_bound_character (c ∷ cs) && is_other_than backquote c) ≡ true → EndsBound e
    → negative_number (c ∷ (cs ++ e ∷ t)) ≡ Failed → bound (c ∷ (cs ++ e ∷ t)) ≡ Found (encode_utf8_all (c ∷ cs)) (e ∷ t)
unfolding bound
word_read c cs e t plain ends fails =
    let parts = split_and (list_all is_bound_character (c ∷ cs)) (is_other_than backquote c) plain in
    let all = split_and (is_bound_character c) (list_all is_bound_character cs) parts.0 in
    let first : (is_bound_character c && is_other_than backquote c) ≡ true = both (is_bound_character c) (is_other_than backquote c) all.0 parts.1 in
    rw (fails, started_read (λ x. is_bound_character x && is_other_than backquote x) is_bound_character c cs e t first all.1 ends.0)
  where
    both : (a b : Bool) → a ≡ true → b ≡ true → (a && b) ≡ true
    both true b h k = k
    both false b h k = h

bound_of_number : (text : List ℕ) (found after : List ℕ) → negative_number text ≡ Found found after → bound text ≡ Found found after
unfolding bound
bound_of_number text found after h = rw h

plain_number : (c d : ℕ) (ds : List ℕ) → c == minus ≡ true → is_ascii_digit d ≡ true → is_plain_after c (d ∷ ds) ≡ true → is_fraction (skip is_ascii_digit ds) ≡ true
unfolding is_plain_after
plain_number c d ds h k after =
    let e : cond ((c == minus) && is_ascii_digit d) (is_fraction (skip is_ascii_digit ds)) true ≡ is_fraction (skip is_ascii_digit ds) = rw (h, k) in
    sym e ∙ after

bound_read : (c : ℕ) (cs : List ℕ) (e : ℕ) (t : List ℕ) → (list_all is_bound_character (c ∷ cs) && is_other_than backquote c) ≡ true → is_plain_after c cs ≡ true → EndsBound e
    → bound (c ∷ (cs ++ e ∷ t)) ≡ Found (encode_utf8_all (c ∷ cs)) (e ∷ t)
bound_read c cs e t plain after ends =
    let by : (b : Bool) → c == minus ≡ b → bound (c ∷ (cs ++ e ∷ t)) ≡ Found (encode_utf8_all (c ∷ cs)) (e ∷ t) =
    λ b. elim b as (λ v. c == minus ≡ v → bound (c ∷ (cs ++ e ∷ t)) ≡ Found (encode_utf8_all (c ∷ cs)) (e ∷ t)) [
      | true ↦ λ h. behind_minus cs h after plain
      | false ↦ λ h. word_read c cs e t plain ends (no_number c (cs ++ e ∷ t) h)
    ] in by (c == minus) refl
  where
    behind_minus : (cs : List ℕ) → c == minus ≡ true → is_plain_after c cs ≡ true → (list_all is_bound_character (c ∷ cs) && is_other_than backquote c) ≡ true
        → bound (c ∷ (cs ++ e ∷ t)) ≡ Found (encode_utf8_all (c ∷ cs)) (e ∷ t)
    behind_minus [] h after plain = word_read c [] e t plain ends (ap (λ x. negative_number (x ∷ e ∷ t)) (eqb-true c minus h) ∙ no_digits e t ends.1)
    behind_minus (d ∷ ds) h after plain =
        let two : (b : Bool) → is_ascii_digit d ≡ b → bound (c ∷ d ∷ (ds ++ e ∷ t)) ≡ Found (encode_utf8_all (c ∷ d ∷ ds)) (e ∷ t) =
        λ b. elim b as (λ v. is_ascii_digit d ≡ v → bound (c ∷ d ∷ (ds ++ e ∷ t)) ≡ Found (encode_utf8_all (c ∷ d ∷ ds)) (e ∷ t)) [
          | true ↦ λ k. bound_of_number (c ∷ d ∷ (ds ++ e ∷ t)) (encode_utf8_all (c ∷ d ∷ ds)) (e ∷ t)
              (ap (λ x. negative_number (x ∷ d ∷ (ds ++ e ∷ t))) (eqb-true c minus h) ∙ number_read d ds e t k (plain_number c d ds h k after) ends.1 ends.2
              ∙ ap (λ x. Found (encode_utf8_all (x ∷ d ∷ ds)) (e ∷ t)) (sym (eqb-true c minus h)))
          | false ↦ λ k. word_read c (d ∷ ds) e t plain ends (ap (λ x. negative_number (x ∷ d ∷ (ds ++ e ∷ t))) (eqb-true c minus h) ∙ no_digits d (ds ++ e ∷ t) k)
        ] in two (is_ascii_digit d) refl

-- ---- a word that isn't a star

is_longer : (c : ℕ) → ltb c 128 ≡ false → 2 ≤ length (encode_utf8 c)
unfolding lib.Utf8.encode
is_longer c h = rw h (more (ltb c 2048) (ltb c 65536) _ _ _ _ _ _ _ _ _)
  where
    more : (b b' : Bool) (a1 a2 a3 a4 a5 a6 a7 a8 a9 : ℕ) → 2 ≤ length (cond b (a1 ∷ a2 ∷ []) (cond b' (a3 ∷ a4 ∷ a5 ∷ []) (a6 ∷ a7 ∷ a8 ∷ a9 ∷ [])))
    more true b' a1 a2 a3 a4 a5 a6 a7 a8 a9 = omega arith
    more false true a1 a2 a3 a4 a5 a6 a7 a8 a9 = omega arith
    more false false a1 a2 a3 a4 a5 a6 a7 a8 a9 = omega arith

is_itself : (c : ℕ) → ltb c 128 ≡ true → encode_utf8 c ≡ c ∷ []
unfolding lib.Utf8.encode
is_itself c h = rw h

-- some bytes
has_bytes : (c : ℕ) → 1 ≤ length (encode_utf8 c)
has_bytes c =
    let by : (b : Bool) → ltb c 128 ≡ b → 1 ≤ length (encode_utf8 c) =
    λ b. elim b as (λ v. ltb c 128 ≡ v → 1 ≤ length (encode_utf8 c)) [
      | true ↦ λ h. rw (is_itself c h) (omega arith)
      | false ↦ λ h. (let long = is_longer c h in omega arith)
    ] in by (ltb c 128) refl

first_of_two : (a b : ℕ) (as' bs : List ℕ) → a ∷ as' ≡ b ∷ bs → a ≡ b
first_of_two a b as' bs h = ap (λ (x : List ℕ). elim x [ [] ↦ a | c ∷ cs ↦ c ]) h

star_is : (c : ℕ) (cs : List ℕ) → encode_utf8_all (c ∷ cs) ≡ star ∷ [] → is_star c cs ≡ true
unfolding is_star
star_is c [] h =
    let by : (b : Bool) → ltb c 128 ≡ b → c == star ≡ true =
    λ b. elim b as (λ v. ltb c 128 ≡ v → c == star ≡ true) [
      | true ↦ λ k. eq-eqb c star (first_of_two c star [] [] (ap (λ x. x ++ []) (sym (is_itself c k)) ∙ h))
      | false ↦ λ k. (let long = is_longer c k in let size : length (encode_utf8 c ++ []) ≡ 1 = ap length h in let parts : length (encode_utf8 c ++ []) ≡ length (encode_utf8 c) + 0 = length-append (encode_utf8 c) [] in absurd (omega arith))
    ] in by (ltb c 128) refl
star_is c (d ∷ ds) h =
    let one_more = has_bytes c in
    let two_more = has_bytes d in
    let size : length (encode_utf8 c ++ (encode_utf8 d ++ encode_utf8_all ds)) ≡ 1 = ap length h in
    let parts : length (encode_utf8 c ++ (encode_utf8 d ++ encode_utf8_all ds)) ≡ length (encode_utf8 c) + length (encode_utf8 d ++ encode_utf8_all ds) = length-append (encode_utf8 c) (encode_utf8 d ++ encode_utf8_all ds) in
    let more : length (encode_utf8 d ++ encode_utf8_all ds) ≡ length (encode_utf8 d) + length (encode_utf8_all ds) = length-append (encode_utf8 d) (encode_utf8_all ds) in
    absurd (omega arith)

no_star_bytes : (c : ℕ) (cs : List ℕ) → is_star c cs ≡ false → bytes_eq (encode_utf8_all (c ∷ cs)) (star ∷ []) ≡ false
no_star_bytes c cs h =
    let by : (b : Bool) → bytes_eq (encode_utf8_all (c ∷ cs)) (star ∷ []) ≡ b → bytes_eq (encode_utf8_all (c ∷ cs)) (star ∷ []) ≡ false =
    λ b. elim b as (λ v. bytes_eq (encode_utf8_all (c ∷ cs)) (star ∷ []) ≡ v → bytes_eq (encode_utf8_all (c ∷ cs)) (star ∷ []) ≡ false) [
      | true ↦ λ e. absurd (true≢false (sym (star_is c cs ((bytes_eq-Decides (encode_utf8_all (c ∷ cs)) (star ∷ [])).0 e)) ∙ h))
      | false ↦ λ e. e
    ] in by (bytes_eq (encode_utf8_all (c ∷ cs)) (star ∷ [])) refl

-- ---- the two bounds of a range

abbrev word_of : Bound → List ℕ
word_of (Inclusive text) = text
word_of (Exclusive text) = text
word_of Unbounded = star ∷ []

abbrev is_inclusive : Bound → Bool
is_inclusive (Exclusive text) = false
is_inclusive _ = true

abbrev opens : Bound → ℕ
opens (Exclusive text) = open_brace
opens _ = open_square

abbrev closes : Bound → ℕ
closes (Exclusive text) = close_brace
closes _ = close_square

lower_text : (b : Bound) (t : List ℕ) → printed_lower b ++ t ≡ opens b ∷ (word_of b ++ t)
lower_text (Inclusive text) t = refl
lower_text (Exclusive text) t = refl
lower_text Unbounded t = refl

upper_text : (b : Bound) (t : List ℕ) → printed_upper b ++ t ≡ word_of b ++ closes b ∷ t
upper_text (Inclusive text) t = append_assoc text (close_square ∷ []) t
upper_text (Exclusive text) t = append_assoc text (close_brace ∷ []) t
upper_text Unbounded t = refl

text_again : (text : List ℕ) (e : ℕ) (t : List ℕ) → is_plain_word text ≡ true → EndsBound e → bound (text ++ e ∷ t) ≡ Found (encode_utf8_all text) (e ∷ t)
unfolding is_plain_word
text_again [] e t plain ends = absurd (true≢false (sym plain))
text_again (c ∷ cs) e t plain ends =
    let parts = split_and (list_all is_bound_character (c ∷ cs) && is_other_than backquote c) (not (is_star c cs) && is_plain_after c cs) plain in
    bound_read c cs e t parts.0 (split_and (not (is_star c cs)) (is_plain_after c cs) parts.1).1 ends

star_again : (e : ℕ) (t : List ℕ) → EndsBound e → bound (star ∷ e ∷ t) ≡ Found (encode_utf8_all (star ∷ [])) (e ∷ t)
unfolding is_bound_character is_plain_after
star_again e t ends = bound_read star [] e t refl refl ends

word_again : (b : Bound) (e : ℕ) (t : List ℕ) → is_plain_bound b ≡ true → EndsBound e → bound (word_of b ++ e ∷ t) ≡ Found (encode_utf8_all (word_of b)) (e ∷ t)
unfolding is_plain_bound
word_again (Inclusive text) e t plain ends = text_again text e t plain ends
word_again (Exclusive text) e t plain ends = text_again text e t plain ends
word_again Unbounded e t plain ends = star_again e t ends

bounded_text : (inclusive : Bool) (text : List ℕ) → is_plain_word text ≡ true → bytes_eq (encode_utf8_all text) (star ∷ []) ≡ false
unfolding is_plain_word
bounded_text inclusive [] plain = absurd (true≢false (sym plain))
bounded_text inclusive (c ∷ cs) plain =
    let parts = split_and (list_all is_bound_character (c ∷ cs) && is_other_than backquote c) (not (is_star c cs) && is_plain_after c cs) plain in
    no_star_bytes c cs (opposite (is_star c cs) (split_and (not (is_star c cs)) (is_plain_after c cs) parts.1).0)

bounded_word : (b : Bound) → is_plain_bound b ≡ true → bounded (is_inclusive b) (encode_utf8_all (word_of b)) ≡ bytes_of b
unfolding is_plain_bound lib.Utf8.encode
bounded_word (Inclusive text) plain = rw (bounded_text true text plain)
bounded_word (Exclusive text) plain = rw (bounded_text false text plain)
bounded_word Unbounded plain = refl

blank_is : is_bound_character 32 ≡ false
unfolding is_bound_character
blank_is = refl

tab_is : is_bound_character 9 ≡ false
unfolding is_bound_character
tab_is = refl

return_is : is_bound_character 13 ≡ false
unfolding is_bound_character
return_is = refl

feed_is : is_bound_character 10 ≡ false
unfolding is_bound_character
feed_is = refl

no_space : (c : ℕ) → is_bound_character c ≡ true → is_space c ≡ false
unfolding is_space
no_space c is =
    let blank : c == 32 ≡ false = other 32 (blank_is) in
    let tab : c == 9 ≡ false = other 9 (tab_is) in
    let return : c == 13 ≡ false = other 13 (return_is) in
    let feed : c == 10 ≡ false = other 10 (feed_is) in
    rw (blank, tab, return, feed)
  where
    other : (x : ℕ) → is_bound_character x ≡ false → c == x ≡ false
    other x is_not =
        let by : (b : Bool) → c == x ≡ b → c == x ≡ false = λ b. elim b as (λ v. c == x ≡ v → c == x ≡ false) [
          | true ↦ λ e. absurd (true≢false (sym is ∙ ap is_bound_character (eqb-true c x e) ∙ is_not))
          | false ↦ λ e. e
        ] in by (c == x) refl

text_unspaced : (text t : List ℕ) → is_plain_word text ≡ true → skip is_space (text ++ t) ≡ text ++ t
unfolding is_plain_word skip
text_unspaced [] t plain = absurd (true≢false (sym plain))
text_unspaced (c ∷ cs) t plain =
    let parts = split_and (list_all is_bound_character (c ∷ cs) && is_other_than backquote c) (not (is_star c cs) && is_plain_after c cs) plain in
    let all = split_and (list_all is_bound_character (c ∷ cs)) (is_other_than backquote c) parts.0 in
    rw (no_space c (split_and (is_bound_character c) (list_all is_bound_character cs) all.0).0)

word_unspaced : (b : Bound) (t : List ℕ) → is_plain_bound b ≡ true → skip is_space (word_of b ++ t) ≡ word_of b ++ t
unfolding is_plain_bound skip is_space
word_unspaced (Inclusive text) t plain = text_unspaced text t plain
word_unspaced (Exclusive text) t plain = text_unspaced text t plain
word_unspaced Unbounded t plain = refl

blank_ends : EndsBound 32
unfolding is_bound_character
blank_ends = (refl, refl, refl)

closing_ends : (b : Bound) → EndsBound (closes b)
unfolding is_bound_character
closing_ends (Inclusive text) = (refl, refl, refl)
closing_ends (Exclusive text) = (refl, refl, refl)
closing_ends Unbounded = (refl, refl, refl)

opened : (b : Bound) (t : List ℕ) → bracket open_square open_brace (opens b ∷ t) ≡ Found (is_inclusive b) t
unfolding bracket one
opened (Inclusive text) t = refl
opened (Exclusive text) t = refl
opened Unbounded t = refl

closed : (b : Bound) (t : List ℕ) → bracket close_square close_brace (closes b ∷ t) ≡ Found (is_inclusive b) t
unfolding bracket one
closed (Inclusive text) t = refl
closed (Exclusive text) t = refl
closed Unbounded t = refl

closing_unspaced : (b : Bound) (t : List ℕ) → skip is_space (closes b ∷ t) ≡ closes b ∷ t
unfolding skip is_space
closing_unspaced (Inclusive text) t = refl
closing_unspaced (Exclusive text) t = refl
closing_unspaced Unbounded t = refl

only_range : (b : Bound) (t tail : List ℕ) (found : UserInputLeaf) → full_range (opens b ∷ t) ≡ Found found tail → bare_leaf (opens b ∷ t) ≡ Found found tail
unfolding bare_leaf range half_range sign tag one skip is_space
only_range (Inclusive text) t tail found h = rw h
only_range (Exclusive text) t tail found h = rw h
only_range Unbounded t tail found h = rw h

-- ` TO `
to_read : {A : Type 0} → (next : Reader A) (y : List ℕ) → skip is_space y ≡ y → (some_spaces >> (tag (codes "TO") >> (some_spaces >> next))) (32 ∷ 84 ∷ 79 ∷ 32 ∷ y) ≡ next y
unfolding tag one skip is_space
to_read next y h = rw h

full_read : (o k : ℕ) (tail : List ℕ) (is_lower is_upper : Bool) (low high x y : List ℕ)
    → bracket open_square open_brace (o ∷ x) ≡ Found is_lower x → skip is_space x ≡ x → bound x ≡ Found low (32 ∷ 84 ∷ 79 ∷ 32 ∷ y)
    → skip is_space y ≡ y → bound y ≡ Found high (k ∷ tail) → skip is_space (k ∷ tail) ≡ k ∷ tail → bracket close_square close_brace (k ∷ tail) ≡ Found is_upper tail
    → full_range (o ∷ x) ≡ Found (leaf.Range None (bounded is_lower low) (bounded is_upper high)) tail
unfolding full_range
full_read o k tail is_lower is_upper low high x y a b c d e f g = rw (a, b, c, to_read _ y d, e, f, g)

pub range_again : (lower upper : Bound) (tail : List ℕ) → is_plain_bound lower ≡ true → is_plain_bound upper ≡ true
    → bare_leaf ((printed_lower lower ++ (codes " TO " ++ printed_upper upper)) ++ tail) ≡ Found (leaf.Range None (bytes_of lower) (bytes_of upper)) tail
range_again lower upper tail plain_lower plain_upper =
    let y : List ℕ = word_of upper ++ closes upper ∷ tail in
    let x : List ℕ = word_of lower ++ 32 ∷ 84 ∷ 79 ∷ 32 ∷ y in
    let whole : (printed_lower lower ++ (codes " TO " ++ printed_upper upper)) ++ tail ≡ opens lower ∷ x =
    append_assoc (printed_lower lower) (codes " TO " ++ printed_upper upper) tail
    ∙ ap (λ t. printed_lower lower ++ (32 ∷ 84 ∷ 79 ∷ 32 ∷ t)) (upper_text upper tail) ∙ lower_text lower (32 ∷ 84 ∷ 79 ∷ 32 ∷ y) in
    ap bare_leaf whole
    ∙ only_range lower x tail _ (full_read (opens lower) (closes upper) tail (is_inclusive lower) (is_inclusive upper) (encode_utf8_all (word_of lower)) (encode_utf8_all (word_of upper)) x y
    (opened lower x) (word_unspaced lower (32 ∷ 84 ∷ 79 ∷ 32 ∷ y) plain_lower) (word_again lower 32 (84 ∷ 79 ∷ 32 ∷ y) plain_lower blank_ends)
    (word_unspaced upper (closes upper ∷ tail) plain_upper) (word_again upper (closes upper) tail plain_upper (closing_ends upper)) (closing_unspaced upper tail) (closed upper tail))
    ∙ ap (λ b. Found (leaf.Range None b (bounded (is_inclusive upper) (encode_utf8_all (word_of upper)))) tail) (bounded_word lower plain_lower)
    ∙ ap (λ b. Found (leaf.Range None (bytes_of lower) b) tail) (bounded_word upper plain_upper)

pub range_unspaced : (lower : Bound) (t tail : List ℕ) → skip is_space ((printed_lower lower ++ t) ++ tail) ≡ (printed_lower lower ++ t) ++ tail
unfolding skip is_space
range_unspaced (Inclusive text) t tail = refl
range_unspaced (Exclusive text) t tail = refl
range_unspaced Unbounded t tail = refl
