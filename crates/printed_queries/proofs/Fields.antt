-- A printed field is read again.
use Rattle.std.proofs.Common.{◌≡◌, ◌∙◌, sym, ap, refl, ℕ, zero, suc, ◌≤◌, Bool, true, false, not, ◌||◌, ◌&&◌, ◌==◌, List, [], ◌∷◌, ◌++◌, length, append_assoc, arith, eqb-true, true≢false}
use Rattle.std.specs.Prelude.{encode_utf8, encode_utf8_all}
use Rattle.std.specs.List.{flat_map}
use Rattle.query_tree.specs.Characters.{minus, backslash, colon, is_special, is_space, is_field_character}
use Rattle.query_tree.specs.Reader.{Found, Failed, ◌>>◌, one, skip, tag, joined_up_to}
use Rattle.query_tree.specs.Grammar.{field_piece, field_first, field, some_spaces}
use Rattle.query_tree.specs.Printing.{escaped}
use Rattle.printed_queries.specs.Meaning.{is_plain_character, are_plain_characters}

-- ---- characters of one class and not of another

pub differs : (test : ℕ → Bool) (c x : ℕ) → test c ≡ false → test x ≡ true → c == x ≡ false
differs test c x is_not is =
    let by : (b : Bool) → c == x ≡ b → c == x ≡ false = λ b. elim b as (λ v. c == x ≡ v → c == x ≡ false) [
      | true ↦ λ e. absurd (true≢false (sym is ∙ ap test (sym (eqb-true c x e)) ∙ is_not))
      | false ↦ λ e. e
    ] in by (c == x) refl

backslash_special : is_special backslash ≡ true
unfolding is_special
backslash_special = refl

colon_special : is_special colon ≡ true
unfolding is_special
colon_special = refl

blank_special : is_special 32 ≡ true
unfolding is_special
blank_special = refl

pub plus_special : is_special 43 ≡ true
unfolding is_special
plus_special = refl

pub opposite : (b : Bool) → not b ≡ true → b ≡ false
opposite true h = sym h
opposite false h = refl

pub unspaced : (c : ℕ) → is_special c ≡ false → is_plain_character c ≡ true → is_space c ≡ false
unfolding is_space
unspaced c special plain =
    let blank : c == 32 ≡ false = differs is_special c 32 special blank_special in
    let two : (x : Bool) → not x ≡ true → x ≡ false = λ x. elim x as (λ v. not v ≡ true → v ≡ false) [ true ↦ λ e. sym e | false ↦ λ e. refl ] in
    let others : ((c == 9) || ((c == 13) || ((c == 10) || false))) ≡ false = two ((c == 9) || ((c == 13) || ((c == 10) || false))) plain in
    rw (blank, others)

-- ---- pieces

abbrev pub escapes : List ℕ → List ℕ
escapes cs = flat_map (λ c. escaped (is_special c) c) cs

piece_again : (c : ℕ) (rest : List ℕ) → field_piece (escaped (is_special c) c ++ rest) ≡ Found (encode_utf8 c) rest
unfolding one is_field_character
piece_again c rest =
    let by : (b : Bool) → is_special c ≡ b → field_piece (escaped b c ++ rest) ≡ Found (encode_utf8 c) rest =
    λ b. elim b as (λ v. is_special c ≡ v → field_piece (escaped v c ++ rest) ≡ Found (encode_utf8 c) rest) [
      | true ↦ λ e. rw (backslash_special, e)
      | false ↦ λ e. rw e
    ] in by (is_special c) refl

first_again : (c : ℕ) (rest : List ℕ) → c == minus ≡ false → field_first (escaped (is_special c) c ++ rest) ≡ Found (encode_utf8 c) rest
unfolding one is_field_character
first_again c rest other =
    let by : (b : Bool) → is_special c ≡ b → field_first (escaped b c ++ rest) ≡ Found (encode_utf8 c) rest =
    λ b. elim b as (λ v. is_special c ≡ v → field_first (escaped v c ++ rest) ≡ Found (encode_utf8 c) rest) [
      | true ↦ λ e. rw (backslash_special, e)
      | false ↦ λ e. rw (e, other)
    ] in by (is_special c) refl

colon_ends : (n : ℕ) (rest : List ℕ) → joined_up_to n field_piece (colon ∷ rest) ≡ Found [] (colon ∷ rest)
unfolding joined_up_to one is_field_character
colon_ends zero rest = refl
colon_ends (suc n) rest = rw colon_special

joined_step : (n c : ℕ) (cs rest : List ℕ) → joined_up_to n field_piece (escapes cs ++ colon ∷ rest) ≡ Found (encode_utf8_all cs) (colon ∷ rest)
    → joined_up_to (suc n) field_piece (escapes (c ∷ cs) ++ colon ∷ rest) ≡ Found (encode_utf8_all (c ∷ cs)) (colon ∷ rest)
unfolding joined_up_to
joined_step n c cs rest again =
    rw (append_assoc (escaped (is_special c) c) (escapes cs) (colon ∷ rest), piece_again c (escapes cs ++ colon ∷ rest), again)

pieces_again : (n : ℕ) (cs rest : List ℕ) → length cs ≤ n → joined_up_to n field_piece (escapes cs ++ colon ∷ rest) ≡ Found (encode_utf8_all cs) (colon ∷ rest)
pieces_again n [] rest h = colon_ends n rest
pieces_again zero (c ∷ cs) rest h = absurd (omega arith)
pieces_again (suc n) (c ∷ cs) rest h =
    let again : joined_up_to n field_piece (escapes cs ++ colon ∷ rest) ≡ Found (encode_utf8_all cs) (colon ∷ rest) = pieces_again n cs rest (omega arith) in
    joined_step n c cs rest again

longer : (b : Bool) (c n : ℕ) (t : List ℕ) → n ≤ length t → suc n ≤ length (escaped b c ++ t)
longer true c n t h = omega arith
longer false c n t h = omega arith

pub escapes_longer : (test : ℕ → Bool) (cs t : List ℕ) → length cs ≤ length (flat_map (λ c. escaped (test c) c) cs ++ t)
escapes_longer test [] t = omega arith
escapes_longer test (c ∷ cs) t =
    let rest : List ℕ = flat_map (λ c. escaped (test c) c) cs in
    let again : length cs ≤ length (rest ++ t) = escapes_longer test cs t in
    let more : suc (length cs) ≤ length (escaped (test c) c ++ (rest ++ t)) = longer (test c) c (length cs) (rest ++ t) again in
    rw (append_assoc (escaped (test c) c) rest t) more

-- a field, whatever follows its colon
pub field_again : (c : ℕ) (cs body : List ℕ) → c == minus ≡ false → skip is_space body ≡ body → field (escapes (c ∷ cs) ++ colon ∷ body) ≡ Found (encode_utf8_all (c ∷ cs)) body
unfolding field one skip is_space
field_again c cs body other unspaced_body =
    let whole = append_assoc (escaped (is_special c) c) (escapes cs) (colon ∷ body) in
    let first = first_again c (escapes cs ++ colon ∷ body) other in
    let others = pieces_again (length (escapes cs ++ colon ∷ body)) cs body (escapes_longer is_special cs (colon ∷ body)) in
    rw (whole, first, others) (ap (Found (encode_utf8_all (c ∷ cs))) unspaced_body)

-- ---- what a printed field doesn't begin with

-- a character that isn't special
pub not_that : (x c : ℕ) (t : List ℕ) → is_special x ≡ true → backslash == x ≡ false → one (λ y. y == x) (escaped (is_special c) c ++ t) ≡ Failed
unfolding one
not_that x c t special other =
    let by : (b : Bool) → is_special c ≡ b → one (λ y. y == x) (escaped b c ++ t) ≡ Failed =
    λ b. elim b as (λ v. is_special c ≡ v → one (λ y. y == x) (escaped v c ++ t) ≡ Failed) [
      | true ↦ λ e. rw other
      | false ↦ λ e. rw (differs is_special c x e special)
    ] in by (is_special c) refl

backslash_no_space : (t : List ℕ) → one is_space (backslash ∷ t) ≡ Failed
unfolding one is_space
backslash_no_space t = refl

pub not_space : (c : ℕ) (t : List ℕ) → is_plain_character c ≡ true → one is_space (escaped (is_special c) c ++ t) ≡ Failed
unfolding one
not_space c t plain =
    let by : (b : Bool) → is_special c ≡ b → one is_space (escaped b c ++ t) ≡ Failed =
    λ b. elim b as (λ v. is_special c ≡ v → one is_space (escaped v c ++ t) ≡ Failed) [
      | true ↦ λ e. backslash_no_space (c ∷ t)
      | false ↦ λ e. rw (unspaced c e plain)
    ] in by (is_special c) refl

-- letters: neither the backslash nor the colon
abbrev pub Letters : List ℕ → Type 0
Letters [] = Unit {0}
Letters (p ∷ ps) = (backslash == p ≡ false) × (colon == p ≡ false) × Letters ps

no_space_at_colon : (t : List ℕ) → one is_space (colon ∷ t) ≡ Failed
unfolding one is_space
no_space_at_colon t = refl

pub split_and : (a b : Bool) → (a && b) ≡ true → (a ≡ true) × (b ≡ true)
split_and true b h = (refl, h)
split_and false b h = absurd (true≢false (sym h))

-- no letters and then a space: a blank in a field has a backslash in front
pub no_word : (ps cs t : List ℕ) → Letters ps → are_plain_characters cs ≡ true → (tag ps >> some_spaces) (escapes cs ++ colon ∷ t) ≡ Failed
unfolding tag one
no_word [] [] t letters plain = rw (no_space_at_colon t)
no_word [] (c ∷ cs) t letters plain =
    let here = (split_and (is_plain_character c) (are_plain_characters cs) plain).0 in
    rw (append_assoc (escaped (is_special c) c) (escapes cs) (colon ∷ t), not_space c (escapes cs ++ colon ∷ t) here)
no_word (p ∷ ps) [] t letters plain = rw letters.1
no_word (p ∷ ps) (c ∷ cs) t letters plain =
    let again : (tag ps >> some_spaces) (escapes cs ++ colon ∷ t) ≡ Failed = no_word ps cs t letters.2 (split_and (is_plain_character c) (are_plain_characters cs) plain).1 in
    rw (append_assoc (escaped (is_special c) c) (escapes cs) (colon ∷ t))
    (let by : (b : Bool) → (tag (p ∷ ps) >> some_spaces) (escaped b c ++ (escapes cs ++ colon ∷ t)) ≡ Failed =
    λ b. elim b as (λ v. (tag (p ∷ ps) >> some_spaces) (escaped v c ++ (escapes cs ++ colon ∷ t)) ≡ Failed) [
      | true ↦ rw letters.0
      | false ↦ (let same : (w : Bool) → c == p ≡ w → (tag (p ∷ ps) >> some_spaces) (c ∷ (escapes cs ++ colon ∷ t)) ≡ Failed =
          λ w. elim w as (λ v. c == p ≡ v → (tag (p ∷ ps) >> some_spaces) (c ∷ (escapes cs ++ colon ∷ t)) ≡ Failed) [ true ↦ λ e. rw e again | false ↦ λ e. rw e ]
          in same (c == p) refl)
    ] in by (is_special c))
