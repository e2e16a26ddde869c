-- What the pass from the end of a text knows of what stands behind a character.
use Rattle.std.specs.Prelude.{ℕ, List}
use Rattle.tantivy_query_grammar.specs.declared.starts.Ahead.{Ahead}
use Rattle.tantivy_query_grammar.specs.FieldStarts.{has_colon, begins_special, closes, after_first}

abbrev pub ahead_of : List ℕ → Ahead
ahead_of rest = record { closes = closes rest; closes_later = closes (after_first rest); special = begins_special rest; colon = has_colon rest }
