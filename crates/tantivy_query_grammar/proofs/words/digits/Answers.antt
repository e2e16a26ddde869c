use Rattle.query_tree.specs.Grammar.{digits}
use Rattle.tantivy_query_grammar.proofs.FoundDigits.{gives_digits, gives_some}
use Rattle.tantivy_query_grammar.proofs.words.digits.Goals as goal

pub returns-clause-digits : goal.returns-clause-digits
unfolding digits
returns-clause-digits c = gives_digits c.started.result c.args.at.text.now c.started.ensures

pub returns-clause-not_empty : goal.returns-clause-not_empty
unfolding digits
returns-clause-not_empty c = gives_some c.started.result c.args.at.text.now c.started.ensures
