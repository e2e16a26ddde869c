-- the levels that may still be opened, and the rank of the rule within its level
use Rattle.std.proofs.Common.{◌≡◌, ◌+◌, ◌-◌, ◌*◌, length}
use Rattle.query_tree.specs.Reader as reader
use Rattle.query_tree.specs.Grammar.{next_item, leaf}
use Rattle.tantivy_query_grammar.specs.Gives.{with_list}
use Rattle.tantivy_query_grammar.proofs.items.+parser.Given as goal

abbrev pub decreases-ast : goal.decreases-ast
decreases-ast l = 16 * l.levels + 9

abbrev pub decreases-next_items : goal.decreases-next_items
decreases-next_items l = 16 * l.levels + 8

abbrev pub decreases-more_items : goal.decreases-more_items
decreases-more_items l = 16 * l.levels + 7

abbrev pub decreases-next_item : goal.decreases-next_item
decreases-next_item l = 16 * l.levels + 6

abbrev pub decreases-item_after : goal.decreases-item_after
decreases-item_after l = 16 * l.levels + 5

abbrev pub decreases-leaf : goal.decreases-leaf
decreases-leaf l = 16 * l.levels + 4

abbrev pub decreases-parenthesized : goal.decreases-parenthesized
decreases-parenthesized l = 16 * l.levels + 3

abbrev pub decreases-negation : goal.decreases-negation
decreases-negation l = 16 * l.levels + 3

abbrev pub decreases-field_group : goal.decreases-field_group
decreases-field_group l = 16 * l.levels + 3

abbrev pub decreases-enclosed_tree : goal.decreases-enclosed_tree
decreases-enclosed_tree l = 16 * l.levels + 2

abbrev pub decreases-enclosed_leaf : goal.decreases-enclosed_leaf
decreases-enclosed_leaf l = 16 * l.levels + 2

abbrev pub invariant-more_items-loop-turn : goal.invariant-more_items-loop-turn
invariant-more_items-loop-turn l =
    with_list l.fn.found (reader.repeated (next_item (leaf l.levels)) l.at.text.now) ≡ with_list l.found (reader.repeated_up_to (length l.at.text.now - l._turn) (next_item (leaf l.levels)) l.rest.text.now)
