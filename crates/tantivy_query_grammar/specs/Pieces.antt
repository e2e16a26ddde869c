-- What each kind of piece stands for in the grammar.
use Rattle.std.specs.Prelude.{ℕ, List, ◌∷◌, Option, encode_utf8, if◌then◌else◌}
use Rattle.tantivy_query_grammar.specs.declared.reading.Kind.{Kind}
use Rattle.tantivy_query_grammar.specs.declared.reading.Kind.TheVariants as kind
use Rattle.tantivy_query_grammar.specs.declared.reading.Piece.{Piece}
use Rattle.query_tree.specs.Characters.{backslash}
use Rattle.query_tree.specs.Reader.{Reader, Outcome, one}
use Rattle.tantivy_query_grammar.specs.declared.classes.Class.{Class}
use Rattle.tantivy_query_grammar.specs.declared.cursor.Cursor.{Cursor}
use Rattle.tantivy_query_grammar.specs.Classes.{test_of}
use Rattle.tantivy_query_grammar.specs.Gives.{Gets}
use Rattle.query_tree.specs.Grammar as grammar

abbrev pub piece_of : Kind → Reader (List ℕ)
piece_of (kind.Quoted quote) = grammar.quoted_piece quote
piece_of kind.Digit = grammar.digit
piece_of kind.Field = grammar.field_piece
piece_of kind.FieldFirst = grammar.field_first
piece_of kind.Regex = grammar.regex_piece
piece_of kind.Bound = grammar.bound_piece
piece_of kind.BoundFirst = grammar.bound_first
piece_of kind.Word = grammar.word_piece
piece_of kind.WordFirst = grammar.word_first

-- a character of the class
abbrev pub plain_piece : Class → Reader (List ℕ)
plain_piece class = grammar.spelled (one (test_of class))

-- a backslash and a character of the class, which it gives
abbrev pub escaped_piece : Class → Reader (List ℕ)
escaped_piece class = grammar.spelled (grammar.pair (test_of class))

-- the bytes of a piece
abbrev pub piece_text : Piece → List ℕ
piece_text p = if p.has_backslash then backslash ∷ encode_utf8 p.character else encode_utf8 p.character

-- what a function of the code gives is this piece, and what is left behind it
abbrev pub GetsPiece : Option (Piece × Cursor) → Outcome (List ℕ) → Type 0
GetsPiece result outcome = Gets (λ x. (piece_text x.0, x.1.text.now)) result outcome
