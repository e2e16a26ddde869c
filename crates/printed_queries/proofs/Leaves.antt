-- Each printed leaf is read again.
use Rattle.std.proofs.Common.{◌≡◌, ◌∙◌, sym, ap, refl, ℕ, zero, suc, ◌+◌, ◌≤◌, Bool, true, false, not, ◌==◌, List, [], ◌∷◌, ◌++◌, map, length, length-append, append_assoc, arith, true≢false, None}
use Rattle.std.specs.Prelude.{encode_utf8_all, codes}
use Rattle.query_tree.specs.Aggregation.{negated}
use Rattle.query_tree.specs.Characters.{minus, colon, opening, closing, star, double_quote, is_special, is_space, is_escaped, is_after_star, is_word_character, is_field_character}
use Rattle.query_tree.specs.Reader.{Found, Failed, Reader, one, skip, tag, is_before, joined, repeated_up_to}
use Rattle.query_tree.specs.Grammar.{field, quoted_piece, quoted, simple_term, negative_number, word, term, term_end, slop, bare_leaf, range, half_range, full_range, sign, bracket, set, elements, next_element, exists, star_alone, regex, plain_leaf, field_group, parenthesized, negation, leaf_enclosing}
use Rattle.query_tree.specs.Rewriting.{with_field, leaf_under_field}
use Rattle.query_tree.specs.declared.tree.Delimiter.TheVariants as delimiter
use Rattle.query_tree.specs.declared.tree.UserInputLeaf.{UserInputLeaf}
use Rattle.query_tree.specs.declared.tree.UserInputLeaf.TheVariants as leaf
use Rattle.query_tree.specs.declared.tree.UserInputAst.{UserInputAst}
use Rattle.query_tree.specs.declared.tree.UserInputAst.TheVariants as tree
use Rattle.query_tree.specs.Printing.{escaped, printed_text, inside_quotes, needs_backslash, printed_elements, more_elements}
use Rattle.query_tree.proofs.ReadAgain.{quoted_again}
use Rattle.printed_queries.specs.Meaning.{are_plain_characters, is_plain_field}
use Rattle.printed_queries.proofs.Fields.{escapes, escapes_longer, field_again, not_that, no_word, split_and, opposite}
use Rattle.printed_queries.proofs.Chains.{Ends}

-- ---- a text in double quotes

quoted_read : (text tail : List ℕ) → quoted double_quote (double_quote ∷ (inside_quotes text ++ double_quote ∷ tail)) ≡ Found (encode_utf8_all text) tail
unfolding quoted one
quoted_read text tail =
    let again : joined (quoted_piece double_quote) (inside_quotes text ++ double_quote ∷ tail) ≡ Found (encode_utf8_all text) (double_quote ∷ tail) =
    quoted_again (length (inside_quotes text ++ double_quote ∷ tail)) text tail (escapes_longer needs_backslash text (double_quote ∷ tail)) in
    rw again

unquoted : (t : List ℕ) → quoted 39 (double_quote ∷ t) ≡ Failed
unfolding quoted one
unquoted t = refl

simple_read : (text tail : List ℕ) → simple_term (double_quote ∷ (inside_quotes text ++ double_quote ∷ tail)) ≡ Found (delimiter.DoubleQuotes, encode_utf8_all text) tail
unfolding simple_term negative_number one
simple_read text tail =
    let no_single : quoted 39 (double_quote ∷ (inside_quotes text ++ double_quote ∷ tail)) ≡ Failed = unquoted (inside_quotes text ++ double_quote ∷ tail) in
    rw (no_single, quoted_read text tail)

no_word_at_closing : (t : List ℕ) → simple_term (93 ∷ t) ≡ Failed
unfolding simple_term negative_number quoted word is_word_character is_escaped one
no_word_at_closing t = refl

pub text_read : (text tail : List ℕ) → simple_term (printed_text text ++ tail) ≡ Found (delimiter.DoubleQuotes, encode_utf8_all text) tail
text_read text tail = ap (λ t. simple_term (double_quote ∷ t)) (append_assoc (inside_quotes text) (double_quote ∷ []) tail) ∙ simple_read text tail

-- ---- what follows a text

unprefixed_end : (tail : List ℕ) → Ends tail → term_end tail ≡ Found (0, false) tail
unfolding term_end slop one
unprefixed_end [] h = refl
unprefixed_end (c ∷ cs) h = let s = h.1 in let t = h.2 in rw (s, t)

prefixed_end : (tail : List ℕ) → term_end (star ∷ tail) ≡ Found (0, true) tail
unfolding term_end one
prefixed_end tail = refl

abbrev pub literal : List ℕ → Bool → UserInputLeaf
literal text prefix = leaf.Literal (record { field_name = None; phrase = text; delimiter = delimiter.DoubleQuotes; slop = 0; prefix = prefix })

term_read : (body after tail : List ℕ) (text : List ℕ) (prefix : Bool) → simple_term body ≡ Found (delimiter.DoubleQuotes, text) after → term_end after ≡ Found (0, prefix) tail
    → term body ≡ Found (literal text prefix) tail
unfolding term
term_read body after tail text prefix reads end = rw (reads, end)

only_term : (t : List ℕ) → bare_leaf (double_quote ∷ t) ≡ term (double_quote ∷ t)
unfolding bare_leaf range half_range sign full_range bracket set exists star_alone regex tag one skip is_space
only_term t = refl

pub term_again : (text tail : List ℕ) → Ends tail → bare_leaf (printed_text text ++ tail) ≡ Found (literal (encode_utf8_all text) false) tail
term_again text tail h = only_term ((inside_quotes text ++ double_quote ∷ []) ++ tail) ∙ term_read (printed_text text ++ tail) tail tail (encode_utf8_all text) false (text_read text tail) (unprefixed_end tail h)

pub prefix_again : (text tail : List ℕ) → bare_leaf (printed_text text ++ star ∷ tail) ≡ Found (literal (encode_utf8_all text) true) tail
prefix_again text tail = only_term ((inside_quotes text ++ double_quote ∷ []) ++ star ∷ tail) ∙ term_read (printed_text text ++ star ∷ tail) (star ∷ tail) tail (encode_utf8_all text) true (text_read text (star ∷ tail)) (prefixed_end tail)

before_end : (tail : List ℕ) → Ends tail → is_before is_after_star tail ≡ true
unfolding is_before
before_end [] h = refl
before_end (c ∷ cs) h = h.3

pub exists_again : (tail : List ℕ) → Ends tail → bare_leaf (star ∷ tail) ≡ Found leaf.All tail
unfolding bare_leaf range half_range sign full_range bracket set exists star_alone tag one skip is_space
exists_again tail h = rw (before_end tail h)

-- ---- sets

element_read : (text rest : List ℕ) → next_element (32 ∷ (printed_text text ++ rest)) ≡ Found (encode_utf8_all text) rest
unfolding one is_space skip
element_read text rest = rw (text_read text rest)

no_element_at_closing : (rest : List ℕ) → next_element (93 ∷ rest) ≡ Failed
unfolding one is_space
no_element_at_closing rest = refl

elements_end : (m : ℕ) (rest : List ℕ) → repeated_up_to m next_element (93 ∷ rest) ≡ Found [] (93 ∷ rest)
unfolding repeated_up_to
elements_end zero rest = refl
elements_end (suc m) rest = rw (no_element_at_closing rest)

elements_step : (m : ℕ) (text more rest after : List ℕ) (others : List (List ℕ)) → repeated_up_to m next_element (more ++ rest) ≡ Found others after
    → repeated_up_to (suc m) next_element ((32 ∷ (printed_text text ++ more)) ++ rest) ≡ Found (encode_utf8_all text ∷ others) after
unfolding repeated_up_to
elements_step m text more rest after others again =
    let whole : (32 ∷ (printed_text text ++ more)) ++ rest ≡ 32 ∷ (printed_text text ++ (more ++ rest)) = ap (λ t. 32 ∷ t) (append_assoc (printed_text text) more rest) in
    rw (whole, element_read text (more ++ rest), again)

elements_again : (m : ℕ) (texts : List (List ℕ)) (rest : List ℕ) → length texts ≤ m → repeated_up_to m next_element (more_elements texts ++ 93 ∷ rest) ≡ Found (map encode_utf8_all texts) (93 ∷ rest)
elements_again m [] rest h = elements_end m rest
elements_again zero (text ∷ texts) rest h = absurd (omega arith)
elements_again (suc m) (text ∷ texts) rest h =
    elements_step m text (more_elements texts) (93 ∷ rest) (93 ∷ rest) (map encode_utf8_all texts) (elements_again m texts rest (omega arith))

elements_longer : (texts : List (List ℕ)) (rest : List ℕ) → length texts ≤ length (more_elements texts ++ rest)
elements_longer [] rest = omega arith
elements_longer (text ∷ texts) rest =
    let again : length texts ≤ length (more_elements texts ++ rest) = elements_longer texts rest in
    let whole : length (more_elements (text ∷ texts) ++ rest) ≡ suc (length (printed_text text ++ (more_elements texts ++ rest))) = ap (λ t. suc (length t)) (append_assoc (printed_text text) (more_elements texts) rest) in
    let parts : length (printed_text text ++ (more_elements texts ++ rest)) ≡ length (printed_text text) + length (more_elements texts ++ rest) = length-append (printed_text text) (more_elements texts ++ rest) in
    omega arith

all_elements_again : (texts : List (List ℕ)) (rest : List ℕ) → elements (printed_elements texts ++ 93 ∷ rest) ≡ Found (map encode_utf8_all texts) (93 ∷ rest)
unfolding elements
all_elements_again [] rest = rw (no_word_at_closing rest)
all_elements_again (text ∷ texts) rest =
    let others : repeated_up_to (length (more_elements texts ++ 93 ∷ rest)) next_element (more_elements texts ++ 93 ∷ rest) ≡ Found (map encode_utf8_all texts) (93 ∷ rest) =
    elements_again (length (more_elements texts ++ 93 ∷ rest)) texts rest (elements_longer texts (93 ∷ rest)) in
    rw (append_assoc (printed_text text) (more_elements texts) (93 ∷ rest), text_read text (more_elements texts ++ 93 ∷ rest), others)

elements_unspaced : (texts : List (List ℕ)) (rest : List ℕ) → skip is_space (printed_elements texts ++ 93 ∷ rest) ≡ printed_elements texts ++ 93 ∷ rest
unfolding skip is_space
elements_unspaced [] rest = refl
elements_unspaced (text ∷ texts) rest = refl

pub set_again : (texts : List (List ℕ)) (tail : List ℕ) → bare_leaf (73 ∷ 78 ∷ 32 ∷ 91 ∷ (printed_elements texts ++ 93 ∷ tail)) ≡ Found (leaf.Set None (map encode_utf8_all texts)) tail
unfolding bare_leaf range half_range sign full_range bracket set tag one skip is_space
set_again texts tail = rw (elements_unspaced texts tail, all_elements_again texts tail)

-- ---- a leaf with its field

opening_special : is_special opening ≡ true
unfolding is_special
opening_special = refl

star_special : is_special star ≡ true
unfolding is_special
star_special = refl

no_parentheses : (enclosed : Reader UserInputAst) (c : ℕ) (t : List ℕ) → parenthesized enclosed (escaped (is_special c) c ++ t) ≡ Failed
unfolding parenthesized
no_parentheses enclosed c t = rw (not_that opening c t opening_special refl)

no_star : (c : ℕ) (t : List ℕ) → star_alone (escaped (is_special c) c ++ t) ≡ Failed
unfolding star_alone
no_star c t = rw (not_that star c t star_special refl)

no_negation : (enclosed : Reader UserInputAst) (cs t : List ℕ) → are_plain_characters cs ≡ true → negation enclosed (escapes cs ++ colon ∷ t) ≡ Failed
unfolding negation
no_negation enclosed cs t plain =
    rw (no_word (codes "NOT") cs t (refl, refl, (refl, refl, (refl, refl, tt))) plain)

leaf_read : (name body tail : List ℕ) (found : UserInputLeaf) (text : List ℕ) → field text ≡ Found name body → bare_leaf body ≡ Found found tail
    → plain_leaf text ≡ Found (leaf_under_field name found) tail
unfolding plain_leaf with_field
leaf_read name body tail found text by_field by_leaf = rw (by_field, by_leaf)

enclosing_read : (inner_tree inner_leaf : Reader UserInputAst) (text tail : List ℕ) (found : UserInputLeaf) → parenthesized inner_tree text ≡ Failed → star_alone text ≡ Failed
    → negation inner_leaf text ≡ Failed → plain_leaf text ≡ Found found tail → leaf_enclosing inner_tree inner_leaf text ≡ Found (tree.Leaf found) tail
unfolding leaf_enclosing
enclosing_read inner_tree inner_leaf text tail found a b c d = rw (a, b, c, d)

pub field_leaf : (inner_tree inner_leaf : Reader UserInputAst) (name body tail : List ℕ) (found : UserInputLeaf) → is_plain_field name ≡ true → skip is_space body ≡ body → bare_leaf body ≡ Found found tail
    → leaf_enclosing inner_tree inner_leaf (escapes name ++ colon ∷ body) ≡ Found (tree.Leaf (leaf_under_field (encode_utf8_all name) found)) tail
unfolding is_plain_field
field_leaf inner_tree inner_leaf [] body tail found plain unspaced by_leaf = absurd (true≢false (sym plain))
field_leaf inner_tree inner_leaf (c ∷ cs) body tail found plain unspaced by_leaf =
    let parts = split_and (not (c == minus)) (are_plain_characters (c ∷ cs)) plain in
    let whole = append_assoc (escaped (is_special c) c) (escapes cs) (colon ∷ body) in
    enclosing_read inner_tree inner_leaf (escapes (c ∷ cs) ++ colon ∷ body) tail (leaf_under_field (encode_utf8_all (c ∷ cs)) found)
    (ap (parenthesized inner_tree) whole ∙ no_parentheses inner_tree c (escapes cs ++ colon ∷ body))
    (ap star_alone whole ∙ no_star c (escapes cs ++ colon ∷ body))
    (no_negation inner_leaf (c ∷ cs) body parts.1)
    (leaf_read (encode_utf8_all (c ∷ cs)) body tail found (escapes (c ∷ cs) ++ colon ∷ body) (field_again c cs body (opposite (c == minus) parts.0) unspaced) by_leaf)

-- ---- parentheses and NOT

pub parenthesized_again : (inner_tree inner_leaf : Reader UserInputAst) (text tail : List ℕ) (found : UserInputAst) → inner_tree (text ++ closing ∷ tail) ≡ Found found (closing ∷ tail)
    → leaf_enclosing inner_tree inner_leaf (opening ∷ (text ++ closing ∷ tail)) ≡ Found found tail
unfolding leaf_enclosing parenthesized one
parenthesized_again inner_tree inner_leaf text tail found reads = rw reads

pub negation_again : (inner_tree inner_leaf : Reader UserInputAst) (text tail : List ℕ) (found : UserInputAst) → skip is_space text ≡ text → inner_leaf text ≡ Found found tail
    → leaf_enclosing inner_tree inner_leaf (78 ∷ 79 ∷ 84 ∷ 32 ∷ text) ≡ Found (negated found) tail
unfolding leaf_enclosing parenthesized star_alone negation tag one is_space skip
negation_again inner_tree inner_leaf text tail found unspaced reads = rw (unspaced, reads)

pub no_leaf_at_end : (inner_tree inner_leaf : Reader UserInputAst) → leaf_enclosing inner_tree inner_leaf [] ≡ Failed
unfolding leaf_enclosing parenthesized star_alone negation plain_leaf field field_group bare_leaf range half_range sign full_range bracket set exists regex term simple_term negative_number quoted word tag one skip
no_leaf_at_end inner_tree inner_leaf = refl

pub no_leaf_at_closing : (inner_tree inner_leaf : Reader UserInputAst) (t : List ℕ) → leaf_enclosing inner_tree inner_leaf (closing ∷ t) ≡ Failed
unfolding leaf_enclosing parenthesized star_alone negation plain_leaf field field_group bare_leaf range half_range sign full_range bracket set exists regex term simple_term negative_number quoted word tag one skip is_space is_special is_word_character is_escaped is_field_character
no_leaf_at_closing inner_tree inner_leaf t = refl
