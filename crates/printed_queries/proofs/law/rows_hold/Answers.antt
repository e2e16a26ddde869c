use Rattle.std.proofs.Common.{refl}
use Rattle.query_tree.specs.Characters.{is_special, is_bound_character}
use Rattle.query_tree.specs.Reader.{skip}
use Rattle.query_tree.specs.Printing.{printed, depth}
use Rattle.printed_queries.specs.Meaning.{is_plain, is_plain_field, is_plain_word, is_plain_after, is_star, is_fraction, are_digits}
use Rattle.printed_queries.specs.Rows.{PrintedRows, DepthRows, PlainRows}
use Rattle.printed_queries.proofs.law.rows_hold.Goals as goal

printed_rows : PrintedRows
unfolding printed is_special
printed_rows = record { joined = refl; nested = refl; escapes = refl; range = refl; set = refl }

depth_rows : DepthRows
unfolding depth
depth_rows = record { joined = refl; nots = refl }

plain_rows : PlainRows
unfolding is_plain is_plain_field is_plain_word is_star is_plain_after is_bound_character is_fraction are_digits skip
plain_rows = record {
  no_field = refl;
  minus_field = refl;
  tab_field = refl;
  not_field = refl;
  star_bound = refl;
  number_and_letter = refl;
  number_and_dot = refl;
  decimal_bound = refl;
  minus_bound = refl;
  backquote_inside = refl;
}

pub returns : goal.returns
returns c = record { printed = printed_rows; depths = depth_rows; plain = plain_rows }
