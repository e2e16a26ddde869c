use Rattle.std.proofs.Common.{◌≡◌, ◌-◌, length}
use Rattle.query_tree.specs.Reader as reader
use Rattle.query_tree.specs.Grammar.{next_element}
use Rattle.tantivy_query_grammar.specs.Gives.{with_list}
use Rattle.tantivy_query_grammar.proofs.leaves.more_elements.Given as goal

abbrev pub invariant-loop-turn : goal.invariant-loop-turn
invariant-loop-turn l =
    with_list l.fn.found (reader.repeated next_element l.at.text.now) ≡ with_list l.found (reader.repeated_up_to (length l.at.text.now - l._turn) next_element l.rest.text.now)
