use Rattle.std.proofs.Common.{◌≡◌, ◌-◌, length}
use Rattle.query_tree.specs.Reader as reader
use Rattle.tantivy_query_grammar.specs.Pieces.{piece_of}
use Rattle.tantivy_query_grammar.specs.Gives.{with_front}
use Rattle.tantivy_query_grammar.proofs.reading.joined.Given as goal

abbrev pub invariant-loop-turn : goal.invariant-loop-turn
invariant-loop-turn l =
    with_front l.fn.found (reader.joined (piece_of l.kind) l.at.text.now) ≡ with_front l.found (reader.joined_up_to (length l.at.text.now - l._turn) (piece_of l.kind) l.rest.text.now)
