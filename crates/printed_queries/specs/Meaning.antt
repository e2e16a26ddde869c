-- Plain expressions, and which documents mean one.
use Rattle.std.specs.Prelude.{ℕ, Bool, true, false, not, ◌&&◌, ◌||◌, ◌==◌, List, [], ◌∷◌, encode_utf8_all, codes, nat_eq, if◌then◌else◌}
use Rattle.std.specs.List.{list_all, list_any, starts_with}
use Rattle.std.specs.Char.{is_ascii_digit}
use Rattle.query_tree.specs.Characters.{is_among, minus, dot, backquote, star, is_other_than, is_bound_character}
use Rattle.query_tree.specs.Reader.{skip}
use Rattle.query_tree.specs.Printing as printing
use Rattle.query_tree.specs.declared.tree.UserInputBound.{UserInputBound}
use Rattle.query_tree.specs.declared.tree.UserInputBound.TheVariants as bound
use Rattle.documents.specs.declared.documents.Doc.{Doc}
use Rattle.documents.specs.Documents.{holds, holds_where}
use Rattle.printed_queries.specs.Satisfies.{is_above, is_below}

-- ---- plain expressions

-- no tab, line feed or carriage return
abbrev pub is_plain_character : ℕ → Bool
is_plain_character c = not (is_among (codes "\t\r\n") c)

abbrev pub are_plain_characters : List ℕ → Bool
are_plain_characters = list_all is_plain_character

-- nonempty, and its first character isn't a minus
unfoldable pub is_plain_field : List ℕ → Bool
is_plain_field [] = false
is_plain_field (c ∷ cs) = is_other_than minus c && are_plain_characters (c ∷ cs)

-- digits, one or more
unfoldable pub are_digits : List ℕ → Bool
are_digits [] = false
are_digits (c ∷ cs) = is_ascii_digit c && list_all is_ascii_digit cs

-- nothing, or a dot and digits
unfoldable pub is_fraction : List ℕ → Bool
is_fraction [] = true
is_fraction (d ∷ cs) = (d == dot) && are_digits cs

-- what follows the first character: behind a minus and a digit, only digits, and then nothing or a dot and digits
unfoldable pub is_plain_after : ℕ → List ℕ → Bool
is_plain_after c [] = true
is_plain_after c (d ∷ cs) = if (c == minus) && is_ascii_digit d then is_fraction (skip is_ascii_digit cs) else true

unfoldable pub is_star : ℕ → List ℕ → Bool
is_star c [] = c == star
is_star c (d ∷ cs) = false

-- nonempty, not a star, without a backquote in front, and without white space, braces, brackets and double quotes
unfoldable pub is_plain_word : List ℕ → Bool
is_plain_word [] = false
is_plain_word (c ∷ cs) =
    (list_all is_bound_character (c ∷ cs) && is_other_than backquote c) && (not (is_star c cs) && is_plain_after c cs)

unfoldable pub is_plain_bound : printing.Bound → Bool
is_plain_bound (printing.Inclusive text) = is_plain_word text
is_plain_bound (printing.Exclusive text) = is_plain_word text
is_plain_bound printing.Unbounded = true

unfoldable pub is_plain : printing.Expression → Bool
is_plain (printing.Term field text) = is_plain_field field
is_plain (printing.Prefix field text) = is_plain_field field
is_plain (printing.Range field lower upper) = is_plain_field field && (is_plain_bound lower && is_plain_bound upper)
is_plain (printing.Set field texts) = is_plain_field field
is_plain (printing.Exists field) = is_plain_field field
is_plain (printing.Not e) = is_plain e
is_plain (printing.And a b) = is_plain a && is_plain b
is_plain (printing.Or a b) = is_plain a && is_plain b

-- ---- meaning. An expression's texts are characters, and a document's are their UTF-8.

abbrev pub bytes_of : printing.Bound → UserInputBound
bytes_of (printing.Inclusive text) = bound.Inclusive (encode_utf8_all text)
bytes_of (printing.Exclusive text) = bound.Exclusive (encode_utf8_all text)
bytes_of printing.Unbounded = bound.Unbounded

-- the document satisfies the expression
unfoldable pub means : Doc → printing.Expression → Bool
means doc (printing.Term field text) = holds doc (encode_utf8_all field) (encode_utf8_all text)
means doc (printing.Prefix field text) = holds_where doc (encode_utf8_all field) (λ term. starts_with nat_eq term (encode_utf8_all text))
means doc (printing.Range field lower upper) =
    holds_where doc (encode_utf8_all field) (λ term. is_above (bytes_of lower) term && is_below (bytes_of upper) term)
means doc (printing.Set field texts) = list_any (λ text. holds doc (encode_utf8_all field) (encode_utf8_all text)) texts
means doc (printing.Exists field) = holds_where doc (encode_utf8_all field) (λ term. true)
means doc (printing.Not e) = not (means doc e)
means doc (printing.And a b) = means doc a && means doc b
means doc (printing.Or a b) = means doc a || means doc b
