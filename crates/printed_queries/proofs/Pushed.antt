-- Texts that are written piece by piece.
use Rattle.std.proofs.Common.{◌≡◌, ◌∙◌, sym, ap, refl, ℕ, Bool, List, [], ◌∷◌, ◌++◌, append_assoc, append-nil, ◌+◌, ◌<◌, length, take, get_or, map}
use Rattle.std.specs.Prelude.{encode_utf8, encode_utf8_all}
use Rattle.std.specs.List.{flat_map}
use Rattle.std.specs.Str.{chars, IsUtf8, IsAscii}
use Rattle.std.proofs.lemmas.Str.{encodes-chars, encodes-IsAscii}
use Rattle.std.proofs.lemmas.List.{take_more}
use Rattle.query_tree.specs.Printing.{escaped, printed_text, more_elements}

pub encode_utf8_all-append : (a b : List ℕ) → encode_utf8_all (a ++ b) ≡ encode_utf8_all a ++ encode_utf8_all b
encode_utf8_all-append [] b = refl
encode_utf8_all-append (c ∷ cs) b = ap (λ t. encode_utf8 c ++ t) (encode_utf8_all-append cs b) ∙ sym (append_assoc (encode_utf8 c) (encode_utf8_all cs) (encode_utf8_all b))

abbrev pub written : (ℕ → Bool) → List ℕ → List ℕ
written test cs = encode_utf8_all (flat_map (λ c. escaped (test c) c) cs)

-- one more character
pub one_more : (test : ℕ → Bool) (whole out next left rest : List ℕ) (c : ℕ) → out ++ written test left ≡ whole → left ≡ c ∷ rest
    → next ≡ out ++ encode_utf8_all (escaped (test c) c) → next ++ written test rest ≡ whole
one_more test whole out next left rest c so_far is pushed =
    ap (λ t. t ++ written test rest) pushed ∙ append_assoc out (encode_utf8_all (escaped (test c) c)) (written test rest)
    ∙ ap (λ t. out ++ t) (sym (encode_utf8_all-append (escaped (test c) c) (flat_map (λ c. escaped (test c) c) rest)))
    ∙ ap (λ cs. out ++ written test cs) (sym is) ∙ so_far

-- no more
pub all_written : (test : ℕ → Bool) (whole out left : List ℕ) → out ++ written test left ≡ whole → left ≡ [] → out ≡ whole
all_written test whole out left so_far is = sym (append-nil out) ∙ ap (λ cs. out ++ written test cs) (sym is) ∙ so_far

-- one piece after another
pub then_piece : (a b c first second : List ℕ) → b ≡ a ++ encode_utf8_all first → c ≡ b ++ encode_utf8_all second → c ≡ a ++ encode_utf8_all (first ++ second)
then_piece a b c first second one two =
    two ∙ ap (λ t. t ++ encode_utf8_all second) one ∙ append_assoc a (encode_utf8_all first) (encode_utf8_all second)
    ∙ ap (λ t. a ++ t) (sym (encode_utf8_all-append first second))

-- a text as it is
pub as_it_is : (old new text : List ℕ) → IsUtf8 text → new ≡ old ++ text → new ≡ old ++ encode_utf8_all (chars text)
as_it_is old new text utf8 is = is ∙ ap (λ t. old ++ t) (sym (encodes-chars text utf8))

pub one_character : (old new : List ℕ) (c : ℕ) → new ≡ old ++ encode_utf8 c → new ≡ old ++ encode_utf8_all (c ∷ [])
one_character old new c is = is ∙ ap (λ t. old ++ t) (sym (append-nil (encode_utf8 c)))

pub ascii_word : (old new word : List ℕ) → IsAscii word → new ≡ old ++ word → new ≡ old ++ encode_utf8_all word
ascii_word old new word ascii is = is ∙ ap (λ t. old ++ t) (sym (encodes-IsAscii word ascii))

more_elements-push : (texts : List (List ℕ)) (text : List ℕ) → more_elements (texts ++ text ∷ []) ≡ more_elements texts ++ (32 ∷ printed_text text)
more_elements-push [] text = append-nil (32 ∷ printed_text text)
more_elements-push (t ∷ texts) text =
    ap (λ rest. 32 ∷ (printed_text t ++ rest)) (more_elements-push texts text) ∙ ap (λ rest. 32 ∷ rest) (sym (append_assoc (printed_text t) (more_elements texts) (32 ∷ printed_text text)))

map-push : (texts : List (List ℕ)) (text : List ℕ) → map chars (texts ++ text ∷ []) ≡ map chars texts ++ chars text ∷ []
map-push [] text = refl
map-push (t ∷ texts) text = ap (λ rest. chars t ∷ rest) (map-push texts text)

-- one more element
pub element_pushed : (texts : List (List ℕ)) (i : ℕ) (text old out new : List ℕ) → i < length texts → text ≡ get_or texts i text
    → out ≡ old ++ encode_utf8_all (more_elements (map chars (take i texts))) → new ≡ out ++ encode_utf8_all (32 ∷ printed_text (chars text))
    → new ≡ old ++ encode_utf8_all (more_elements (map chars (take (i + 1) texts)))
element_pushed texts i text old out new within item so_far pushed =
    let taken : take (i + 1) texts ≡ take i texts ++ text ∷ [] = take_more texts i text within ∙ ap (λ t. take i texts ++ t ∷ []) (sym item) in
    then_piece old out new (more_elements (map chars (take i texts))) (32 ∷ printed_text (chars text)) so_far pushed
    ∙ ap (λ cs. old ++ encode_utf8_all cs)
    (sym (more_elements-push (map chars (take i texts)) (chars text)) ∙ ap more_elements (sym (map-push (take i texts) text) ∙ ap (map chars) (sym taken)))
