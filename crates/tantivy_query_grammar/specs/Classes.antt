-- What each class of characters stands for in the grammar.
use Rattle.std.specs.Prelude.{ℕ, Bool, ◌&&◌, ◌==◌}
use Rattle.std.specs.Char.{is_ascii_digit}
use Rattle.tantivy_query_grammar.specs.declared.classes.Class.{Class}
use Rattle.tantivy_query_grammar.specs.declared.classes.Class.TheVariants as class
use Rattle.query_tree.specs.Characters.{minus, backquote, is_any, is_other_than, is_space, is_special, is_after_star, is_after_regex, is_field_character, is_word_character, is_bound_character}

abbrev pub test_of : Class → ℕ → Bool
test_of class.Any = is_any
test_of (class.Is wanted) = λ c. c == wanted
test_of (class.Not other) = is_other_than other
test_of class.Space = is_space
test_of class.Digit = is_ascii_digit
test_of class.Special = is_special
test_of class.AfterStar = is_after_star
test_of class.AfterRegex = is_after_regex
test_of class.Field = is_field_character
test_of class.FieldFirst = λ c. is_field_character c && is_other_than minus c
test_of class.Word = is_word_character
test_of class.WordFirst = λ c. is_word_character c && is_other_than minus c
test_of class.Bound = is_bound_character
test_of class.BoundFirst = λ c. is_bound_character c && is_other_than backquote c
