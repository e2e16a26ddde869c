-- A path in one vector stays a text, and its stack stays within it.
use Rattle.std.proofs.Common.{◌≡◌, ℕ, ◌<◌, ◌≤◌, ◌&&◌, not, Bool, true, false, cond, List, [], ◌∷◌, ◌++◌, length, take, map, reverse, if◌then◌else◌, ◌==◌, nat_le, eqb, refl, sym, ap, ◌∙◌, arith, append_assoc, append-nil, IsUtf8, length-append, suc, get_or, inl, inr, lit<, Result, Ok, Err, is_ok, is_err, encode_utf8, encode_utf8_all}
use Rattle.std.specs.Str.{is_utf8, all_scalars}
use Rattle.std.proofs.lemmas.Str.Ascii.{IsAscii-cons, IsAscii-nil}
use Rattle.std.proofs.lemmas.Bool.{and_parts, and_from, leb-true, le-leb, false≢true, ne_eqb, cases_eq}
use Rattle.std.proofs.lemmas.List.{take-append-le, take_all, map-append, reverse-append, length-reverse}
use Rattle.std.proofs.lemmas.Str.{IsUtf8-append, IsUtf8-from_is_utf8, is_utf8-from_IsUtf8, IsUtf8-from_ascii, IsUtf8-nil, encode_ascii, inside_one}
use Rattle.tantivy_common.specs.Path.{expanded, segment_bytes, separator, texts_before, is_stack}

pub text_is_utf8 : (text ns : List ℕ) → is_stack text ns ≡ true → IsUtf8 text
text_is_utf8 text [] h = IsUtf8-from_is_utf8 text h
text_is_utf8 text (n ∷ ns) h = IsUtf8-from_is_utf8 text (and_parts (is_utf8 text) _ h).0

pub is_stack_nil : is_stack [] [] ≡ true
is_stack_nil = is_utf8-from_IsUtf8 [] IsUtf8-nil

-- ---- the text grows

pub is_stack-append : (text more ns : List ℕ) → is_stack text ns ≡ true → IsUtf8 more → is_stack (text ++ more) ns ≡ true
is_stack-append text more [] h utf8 = is_utf8-from_IsUtf8 (text ++ more) (IsUtf8-append text more (IsUtf8-from_is_utf8 text h) utf8)
is_stack-append text more (n ∷ ns) h utf8 =
    let parts = and_parts (is_utf8 text) (nat_le n (length text) && is_stack (take n text) ns) h in
    let inner = and_parts (nat_le n (length text)) (is_stack (take n text) ns) parts.1 in
    let low : n ≤ length text = leb-true n (length text) inner.0 in
    and_from _ _ (is_utf8-from_IsUtf8 (text ++ more) (IsUtf8-append text more (IsUtf8-from_is_utf8 text parts.0) utf8))
    (and_from _ _ (le-leb n (length (text ++ more)) (omega (arith, low, length-append text more))) (ap (λ t. is_stack t ns) (take-append-le n text more low) ∙ inner.1))

pub texts_before-append : (text more ns : List ℕ) → is_stack text ns ≡ true → texts_before (text ++ more) ns ≡ texts_before text ns
texts_before-append text more [] h = refl
texts_before-append text more (n ∷ ns) h =
    let parts = and_parts (is_utf8 text) (nat_le n (length text) && is_stack (take n text) ns) h in
    let low : n ≤ length text = leb-true n (length text) (and_parts (nat_le n (length text)) (is_stack (take n text) ns) parts.1).0 in
    ap (λ t. t ∷ texts_before t ns) (take-append-le n text more low)

front : (text more : List ℕ) → take (length text) (text ++ more) ≡ text
front text more = take-append-le (length text) text more (omega arith) ∙ take_all (length text) text (omega arith)

pub is_stack_pushed : (text more ns : List ℕ) → is_stack text ns ≡ true → IsUtf8 more → is_stack (text ++ more) (length text ∷ ns) ≡ true
is_stack_pushed text more ns h utf8 =
    and_from _ _ (is_utf8-from_IsUtf8 (text ++ more) (IsUtf8-append text more (text_is_utf8 text ns h) utf8))
    (and_from _ _ (le-leb (length text) (length (text ++ more)) (omega (arith, length-append text more))) (ap (λ t. is_stack t ns) (front text more) ∙ h))

pub texts_before_pushed : (text more ns : List ℕ) → texts_before (text ++ more) (length text ∷ ns) ≡ text ∷ texts_before text ns
texts_before_pushed text more ns = ap (λ t. t ∷ texts_before t ns) (front text more)

-- ---- pieces are texts

pub IsUtf8-one : IsUtf8 (1 ∷ [])
IsUtf8-one = IsUtf8-from_ascii (1 ∷ []) (IsAscii-cons 1 [] (lit< tt) IsAscii-nil)

pub IsUtf8-zero : IsUtf8 (0 ∷ [])
IsUtf8-zero = IsUtf8-from_ascii (0 ∷ []) (IsAscii-cons 0 [] (lit< tt) IsAscii-nil)

abbrev undot : ℕ → ℕ
undot b = if b == 46 then 1 else b

no_dots : (bs : List ℕ) → ((k : ℕ) → k < length bs → get_or bs k 0 ≡ 46 → ⊥) → map undot bs ≡ bs
no_dots [] none = refl
no_dots (b ∷ bs) none = λ i. ap (λ t. cond t 1 b) (ne_eqb b 46 (none 0 (omega arith))) i ∷ no_dots bs (λ k h e. none (suc k) (omega arith) e) i

-- a character of several bytes has no dot among them
no_dot_inside : (c : ℕ) → (c ≡ 46 → ⊥) → (k : ℕ) → k < length (encode_utf8 c) → get_or (encode_utf8 c) k 0 ≡ 46 → ⊥
no_dot_inside c other k within e = other (inside_one c [] (encode_utf8 c) k (sym (append-nil (encode_utf8 c))) within (omega arith) ∙ e)

one_char : (c : ℕ) → map undot (encode_utf8 c) ≡ encode_utf8 (undot c)
one_char c = elim (cases_eq c 46) as (λ _. map undot (encode_utf8 c) ≡ encode_utf8 (undot c)) [
  | inl e ↦ ap (λ x. map undot (encode_utf8 x)) e ∙ ap (map undot) (encode_ascii 46 (lit< tt)) ∙ sym (encode_ascii 1 (lit< tt)) ∙ ap (λ x. encode_utf8 (undot x)) (sym e)
  | inr n ↦ no_dots (encode_utf8 c) (no_dot_inside c n) ∙ ap (λ t. encode_utf8 (cond t 1 c)) (sym (ne_eqb c 46 n))
]

all_chars : (cs : List ℕ) → map undot (encode_utf8_all cs) ≡ encode_utf8_all (map undot cs)
all_chars [] = refl
all_chars (c ∷ cs) = map-append undot (encode_utf8 c) (encode_utf8_all cs) ∙ (λ i. one_char c i ++ all_chars cs i)

all_scalars_undot : (cs : List ℕ) → all_scalars cs ≡ true → all_scalars (map undot cs) ≡ true
all_scalars_undot [] h = refl
all_scalars_undot (c ∷ cs) h =
    let parts = and_parts _ (all_scalars cs) h in
    elim (eqb c 46) as (λ t. all_scalars (cond t 1 c ∷ map undot cs) ≡ true) [
      | true ↦ all_scalars_undot cs parts.1
      | false ↦ and_from _ _ parts.0 (all_scalars_undot cs parts.1)
    ]

pub IsUtf8-expanded : (segment : List ℕ) → IsUtf8 segment → IsUtf8 (expanded segment)
IsUtf8-expanded segment utf8 = (map undot utf8.0, (all_scalars_undot utf8.0 utf8.1.0, sym (all_chars utf8.0) ∙ ap (map undot) utf8.1.1))

pub IsUtf8-segment : (expand : Bool) (segment : List ℕ) → IsUtf8 segment → IsUtf8 (segment_bytes expand segment)
IsUtf8-segment true segment utf8 = IsUtf8-expanded segment utf8
IsUtf8-segment false segment utf8 = utf8

-- ---- a push

IsUtf8-piece : (separated expand : Bool) (segment : List ℕ) → IsUtf8 segment → IsUtf8 ((if separated then 1 ∷ [] else []) ++ segment_bytes expand segment)
IsUtf8-piece true expand segment utf8 = IsUtf8-append (1 ∷ []) _ IsUtf8-one (IsUtf8-segment expand segment utf8)
IsUtf8-piece false expand segment utf8 = IsUtf8-segment expand segment utf8

separator_is : (text ns : List ℕ) (separated : Bool) → separated ≡ not (length ns == 0) → (if separated then 1 ∷ [] else []) ≡ separator (texts_before text ns)
separator_is text [] separated e = ap (λ b. if b then 1 ∷ [] else []) e
separator_is text (n ∷ ns) separated e = ap (λ b. if b then 1 ∷ [] else []) (e ∙ ap not (ne_eqb (suc (length ns)) 0 (λ z. omega arith)))

module _ (text indices text' indices' segment : List ℕ) (separated expand : Bool) (kept : is_stack text (reverse indices) ≡ true) (utf8 : IsUtf8 segment)
    (apart : separated ≡ not (length indices == 0)) (grown : text' ≡ (text ++ (if separated then 1 ∷ [] else [])) ++ segment_bytes expand segment) (stacked : indices' ≡ indices ++ length text ∷ []) where
  top : reverse indices' ≡ length text ∷ reverse indices
  top = ap reverse stacked ∙ reverse-append indices (length text ∷ [])

  whole : text' ≡ text ++ ((if separated then 1 ∷ [] else []) ++ segment_bytes expand segment)
  whole = grown ∙ append_assoc text (if separated then 1 ∷ [] else []) (segment_bytes expand segment)

  pub push_keeps : is_stack text' (reverse indices') ≡ true
  push_keeps = (λ i. is_stack (whole i) (top i)) ∙ is_stack_pushed text _ (reverse indices) kept (IsUtf8-piece separated expand segment utf8)

  pub push_before : texts_before text' (reverse indices') ≡ text ∷ texts_before text (reverse indices)
  push_before = (λ i. texts_before (whole i) (top i)) ∙ texts_before_pushed text _ (reverse indices)

  length_same : length indices ≡ length (reverse indices)
  length_same = sym (length-reverse indices)

  pub push_text : text' ≡ (text ++ separator (texts_before text (reverse indices))) ++ segment_bytes expand segment
  push_text = grown ∙ ap (λ s. (text ++ s) ++ segment_bytes expand segment) (separator_is text (reverse indices) separated (apart ∙ ap (λ n. not (n == 0)) length_same))

-- ---- what a test of a result tells

pub ok_unless_err : {A E : Type 0} (r : Result A E) → false ≡ is_err r → is_ok r ≡ true
ok_unless_err (Ok x) h = refl
ok_unless_err (Err e) h = absurd (false≢true h)
