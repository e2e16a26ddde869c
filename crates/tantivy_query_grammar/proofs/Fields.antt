-- Where no field starts, none is read.
use Rattle.std.proofs.Common.{◌≡◌, ◌∙◌, sym, ap, refl, ℕ, Bool, true, false, ◌&&◌, ◌==◌, zero, suc, ◌+◌, ◌<◌, ◌≤◌, List, [], ◌∷◌, ◌++◌, length, drop, get_or, arith, add-one}
use Rattle.std.proofs.Math.Seq.{drop-cons}
use Rattle.std.proofs.Math.ListN.{set}
use Rattle.std.proofs.lemmas.List.{drop-set}
use Rattle.std.specs.Prelude.{encode_utf8, Option, Some, None, slice_get, IsTrue, not}
use Rattle.query_tree.specs.Characters.{minus, colon, backslash, is_other_than, is_space, is_special, is_field_character}
use Rattle.query_tree.specs.Reader.{Outcome, Found, Failed, Deep, Reader, and_then, pure, one, taken, skip, joined_up_to}
use Rattle.query_tree.specs.Grammar.{field, field_piece, field_first}
use Rattle.tantivy_query_grammar.specs.FieldStarts.{has_colon, begins_special, closes, after_first, opens, field_starts}

-- what was read leaves no colon behind spaces
abbrev HasNoColon : Outcome (List ℕ) → Type 0
HasNoColon (Found name rest) = has_colon rest ≡ false
HasNoColon Failed = Unit {0}
HasNoColon Deep = ⊥

no_colon : (text : List ℕ) → has_colon text ≡ false → taken (λ x. x == colon) (skip is_space text) ≡ Failed
unfolding one skip
no_colon [] h = refl
no_colon (c ∷ rest) h =
    let by : (b : Bool) → is_space c ≡ b → taken (λ x. x == colon) (skip is_space (c ∷ rest)) ≡ Failed =
    λ b. elim b as (λ v. is_space c ≡ v → taken (λ x. x == colon) (skip is_space (c ∷ rest)) ≡ Failed) [
      | true ↦ λ e. let h' : has_colon rest ≡ false = rw e at h in rw e (no_colon rest h')
      | false ↦ λ e. let h' : (c == colon) ≡ false = rw e at h in rw (e, h')
    ]
    in by (is_space c) refl

abbrev behind_name : List ℕ → Reader (List ℕ)
behind_name name text = and_then (taken (λ x. x == colon) (skip is_space text)) (λ _ rest. Found name (skip is_space rest))

not_a_field : (o : Outcome (List ℕ)) → HasNoColon o → and_then o behind_name ≡ Failed
not_a_field (Found name rest) h = rw (no_colon rest h)
not_a_field Failed h = refl
not_a_field Deep h = absurd h

joined_on : (first : List ℕ) (o : Outcome (List ℕ)) → HasNoColon o → HasNoColon (and_then o (λ others. pure (first ++ others)))
joined_on first (Found name rest) h = h
joined_on first Failed h = h
joined_on first Deep h = h

-- ---- the pieces of a field

plain_piece : (c : ℕ) (rest : List ℕ) → is_field_character c ≡ true → field_piece (c ∷ rest) ≡ Found (encode_utf8 c) rest
unfolding one
plain_piece c rest e = rw e

pair_piece : (c d : ℕ) (rest : List ℕ) → is_field_character c ≡ false → (c == backslash) ≡ true → is_special d ≡ true → field_piece (c ∷ d ∷ rest) ≡ Found (encode_utf8 d) rest
unfolding one
pair_piece c d rest e f g = rw (e, f, g)

lone_piece : (c d : ℕ) (rest : List ℕ) → is_field_character c ≡ false → (c == backslash) ≡ true → is_special d ≡ false → field_piece (c ∷ d ∷ rest) ≡ Found (encode_utf8 c) (d ∷ rest)
unfolding one
lone_piece c d rest e f g = rw (e, f, g, f)

last_piece : (c : ℕ) → is_field_character c ≡ false → (c == backslash) ≡ true → field_piece (c ∷ []) ≡ Found (encode_utf8 c) []
unfolding one
last_piece c e f = rw (e, f, f)

no_piece : (c : ℕ) (rest : List ℕ) → is_field_character c ≡ false → (c == backslash) ≡ false → field_piece (c ∷ rest) ≡ Failed
unfolding one
no_piece c rest e f = rw (e, f, f)

-- ---- all pieces that come

stops : (n : ℕ) (text : List ℕ) → field_piece text ≡ Failed → has_colon text ≡ false → HasNoColon (joined_up_to n field_piece text)
unfolding joined_up_to
stops zero text e h = h
stops (suc n) text e h = rw e h

goes_on : (n : ℕ) (text first rest : List ℕ) → field_piece text ≡ Found first rest → HasNoColon (joined_up_to n field_piece rest) → HasNoColon (joined_up_to (suc n) field_piece text)
unfolding joined_up_to
goes_on n text first rest e h = rw e (joined_on first (joined_up_to n field_piece rest) h)

all_pieces : (n : ℕ) (text : List ℕ) → length text ≤ n → closes text ≡ false → HasNoColon (joined_up_to n field_piece text)
unfolding joined_up_to one
all_pieces zero [] l h = refl
all_pieces (suc n) [] l h = refl
all_pieces zero (c ∷ rest) l h = absurd (omega arith)
all_pieces (suc n) (c ∷ []) l h =
    let by : (a b : Bool) → is_field_character c ≡ a → (c == backslash) ≡ b → HasNoColon (joined_up_to (suc n) field_piece (c ∷ [])) =
    λ a b. elim a as (λ v. is_field_character c ≡ v → (c == backslash) ≡ b → HasNoColon (joined_up_to (suc n) field_piece (c ∷ []))) [
      | true ↦ λ e f. goes_on n (c ∷ []) _ [] (plain_piece c [] e) (all_pieces n [] (omega arith) refl)
      | false ↦ elim b as (λ w. is_field_character c ≡ false → (c == backslash) ≡ w → HasNoColon (joined_up_to (suc n) field_piece (c ∷ []))) [
        | true ↦ λ e f. goes_on n (c ∷ []) _ [] (last_piece c e f) (all_pieces n [] (omega arith) refl)
        | false ↦ λ e f. stops (suc n) (c ∷ []) (no_piece c [] e f) (rw (e, f) at h)
      ]
    ]
    in by (is_field_character c) (c == backslash) refl refl
all_pieces (suc n) (c ∷ d ∷ rest) l h =
    let by : (a b s : Bool) → is_field_character c ≡ a → (c == backslash) ≡ b → is_special d ≡ s → HasNoColon (joined_up_to (suc n) field_piece (c ∷ d ∷ rest)) =
    λ a b s. elim a as (λ v. is_field_character c ≡ v → (c == backslash) ≡ b → is_special d ≡ s → HasNoColon (joined_up_to (suc n) field_piece (c ∷ d ∷ rest))) [
      | true ↦ λ e f g. goes_on n (c ∷ d ∷ rest) _ (d ∷ rest) (plain_piece c (d ∷ rest) e) (all_pieces n (d ∷ rest) (omega arith) (rw e at h))
      | false ↦ elim b as (λ w. is_field_character c ≡ false → (c == backslash) ≡ w → is_special d ≡ s → HasNoColon (joined_up_to (suc n) field_piece (c ∷ d ∷ rest))) [
        | true ↦ elim s as (λ u. is_field_character c ≡ false → (c == backslash) ≡ true → is_special d ≡ u → HasNoColon (joined_up_to (suc n) field_piece (c ∷ d ∷ rest))) [
          | true ↦ λ e f g. goes_on n (c ∷ d ∷ rest) _ rest (pair_piece c d rest e f g) (all_pieces n rest (omega arith) (rw (e, f, g) at h))
          | false ↦ λ e f g. goes_on n (c ∷ d ∷ rest) _ (d ∷ rest) (lone_piece c d rest e f g) (all_pieces n (d ∷ rest) (omega arith) (rw (e, f, g) at h))
        ]
        | false ↦ λ e f g. stops (suc n) (c ∷ d ∷ rest) (no_piece c (d ∷ rest) e f) (rw (e, f) at h)
      ]
    ]
    in by (is_field_character c) (c == backslash) (is_special d) refl refl refl

-- ---- the first piece

first_plain : (c : ℕ) (rest : List ℕ) → (is_field_character c && is_other_than minus c) ≡ true → field_first (c ∷ rest) ≡ Found (encode_utf8 c) rest
unfolding one
first_plain c rest e = rw e

first_pair : (c d : ℕ) (rest : List ℕ) → (is_field_character c && is_other_than minus c) ≡ false → (c == backslash) ≡ true → is_special d ≡ true → field_first (c ∷ d ∷ rest) ≡ Found (encode_utf8 d) rest
unfolding one
first_pair c d rest e f g = rw (e, f, g)

first_unpaired : (c d : ℕ) (rest : List ℕ) → (is_field_character c && is_other_than minus c) ≡ false → (c == backslash) ≡ true → is_special d ≡ false → field_first (c ∷ d ∷ rest) ≡ Failed
unfolding one
first_unpaired c d rest e f g = rw (e, f, g)

first_last : (c : ℕ) → (is_field_character c && is_other_than minus c) ≡ false → (c == backslash) ≡ true → field_first (c ∷ []) ≡ Failed
unfolding one
first_last c e f = rw (e, f)

first_none : (c : ℕ) (rest : List ℕ) → (is_field_character c && is_other_than minus c) ≡ false → (c == backslash) ≡ false → field_first (c ∷ rest) ≡ Failed
unfolding one
first_none c rest e f = rw (e, f)

never : (text : List ℕ) → field_first text ≡ Failed → field text ≡ Failed
unfolding field
never text h = rw h

unclosed : (text first rest : List ℕ) → field_first text ≡ Found first rest → closes rest ≡ false → field text ≡ Failed
unfolding field
unclosed text first rest e h = rw e (not_a_field _ (joined_on first _ (all_pieces (length rest) rest (omega arith) h)))

pub no_field : (c : ℕ) (rest : List ℕ) → opens c rest ≡ false → field (c ∷ rest) ≡ Failed
unfolding opens
no_field c rest h =
    let by : (a b : Bool) → (is_field_character c && is_other_than minus c) ≡ a → (c == backslash) ≡ b → field (c ∷ rest) ≡ Failed =
    λ a b. elim a as (λ v. (is_field_character c && is_other_than minus c) ≡ v → (c == backslash) ≡ b → field (c ∷ rest) ≡ Failed) [
      | true ↦ λ e f. unclosed (c ∷ rest) _ rest (first_plain c rest e) (rw e at h)
      | false ↦ elim b as (λ w. (is_field_character c && is_other_than minus c) ≡ false → (c == backslash) ≡ w → field (c ∷ rest) ≡ Failed) [
        | true ↦ λ e f. behind_backslash c rest e f (rw (e, f) at h)
        | false ↦ λ e f. never (c ∷ rest) (first_none c rest e f)
      ]
    ]
    in by (is_field_character c && is_other_than minus c) (c == backslash) refl refl
  where
    behind_backslash : (c : ℕ) (rest : List ℕ) → (is_field_character c && is_other_than minus c) ≡ false → (c == backslash) ≡ true → (begins_special rest && closes (after_first rest)) ≡ false → field (c ∷ rest) ≡ Failed
    behind_backslash c [] e f h = never (c ∷ []) (first_last c e f)
    behind_backslash c (d ∷ rest) e f h =
        let by : (s : Bool) → is_special d ≡ s → field (c ∷ d ∷ rest) ≡ Failed =
        λ s. elim s as (λ v. is_special d ≡ v → field (c ∷ d ∷ rest) ≡ Failed) [
          | true ↦ λ g. unclosed (c ∷ d ∷ rest) _ rest (first_pair c d rest e f g) (rw g at h)
          | false ↦ λ g. never (c ∷ d ∷ rest) (first_unpaired c d rest e f g)
        ]
        in by (is_special d) refl

pub none_at_end : field [] ≡ Failed
unfolding field one
none_at_end = refl

pub none_begins : (text : List ℕ) (starts : List Bool) (b : Bool) → starts ≡ field_starts text → Some b ≡ slice_get starts 0 → IsTrue (not b) → field text ≡ Failed
none_begins [] starts b e h n = none_at_end
none_begins (c ∷ rest) starts true e h n = cc
none_begins (c ∷ rest) starts false e h n =
    let first : Some false ≡ Some (opens c rest) = h ∙ ap (λ s. slice_get s 0) e in
    let same : false ≡ opens c rest = cc in
    no_field c rest (sym same)

pub none_left : (text : List ℕ) (starts : List Bool) → starts ≡ field_starts text → None ≡ slice_get starts 0 → field text ≡ Failed
none_left [] starts e h = none_at_end
none_left (c ∷ rest) starts e h = let nothing : Option Bool = None in let first : nothing ≡ Some (opens c rest) = h ∙ ap (λ s. slice_get s 0) e in cc

-- ---- the pass from the end of a text, one turn at a time

pub starts_turn : (i : ℕ) (starts : List Bool) (text : List ℕ) (begins : Bool) → i < length text → length starts ≡ length text → drop (i + 1) starts ≡ field_starts (drop (i + 1) text)
    → begins ≡ opens (get_or text i 0) (drop (i + 1) text) → drop i (set starts i begins) ≡ field_starts (drop i text)
starts_turn i starts text begins lt len h b =
    let inside : i < length starts = omega arith in
    drop-set starts i begins inside ∙ ap (λ x. x ∷ drop (i + 1) starts) b ∙ ap (λ xs. opens (get_or text i 0) (drop (i + 1) text) ∷ xs) h
    ∙ sym (ap field_starts (drop-cons text i 0 lt ∙ ap (λ n. get_or text i 0 ∷ drop n text) (sym (add-one i))))

pub from_turn : (i : ℕ) (text : List ℕ) → i < length text → get_or text i 0 ∷ drop (i + 1) text ≡ drop i text
from_turn i text lt = sym (drop-cons text i 0 lt ∙ ap (λ n. get_or text i 0 ∷ drop n text) (sym (add-one i)))
