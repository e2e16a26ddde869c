-- All that a row of the grammar computes with.
use lib.Utf8
use Rattle.std.specs.Str.{chars}
use Rattle.query_tree.specs.Characters.{is_space, is_special, is_escaped, is_after_star, is_after_regex, is_field_character, is_word_character, is_bound_character, is_unescaped_in_word}
use Rattle.query_tree.specs.Reader.{skip, one, tag, end, is_before, repeated_up_to, joined_up_to}
use Rattle.query_tree.specs.Aggregation.{default_mark, first_pair, grouped, pair_of_group, tree_of_groups, lone, aggregated}
use Rattle.query_tree.specs.Decimals.{trimmed_decimal}
use Rattle.query_tree.specs.Rewriting.{leaf_under_field, with_field, same_leaf}
use Rattle.query_tree.specs.Texts.{leaf_text}
use Rattle.query_tree.specs.Json.{leaf_json}
use Rattle.json.specs.Print.{escape_byte}
use Rattle.std.specs.Fmt.{digits as fmt_digits}
use Rattle.query_tree.specs.Grammar.{digits, fraction, word, negative_number, quoted, simple_term, slop, small_number, term_end, term, bound, bracket, range, elements, set, star_alone, exists, regex, field, bare_leaf, sign, half_range, full_range, plain_leaf, boost, boosted, mark, operand, parenthesized, negation, field_group, leaf_enclosing, item_after, next_item, next_items, ast_of_leaves, leaf, query}

unfoldable pub computes : Unit {0}
unfolding word skip one tag end is_before repeated_up_to joined_up_to is_space is_special is_escaped is_after_star is_after_regex is_field_character is_word_character is_bound_character is_unescaped_in_word lib.Utf8.encode digits fraction negative_number quoted simple_term slop small_number term_end term bound bracket range elements set star_alone exists regex field bare_leaf sign half_range full_range plain_leaf trimmed_decimal boost boosted mark operand parenthesized negation field_group leaf_enclosing item_after next_item next_items ast_of_leaves leaf query default_mark first_pair grouped pair_of_group tree_of_groups lone aggregated leaf_under_field with_field chars
computes = tt
