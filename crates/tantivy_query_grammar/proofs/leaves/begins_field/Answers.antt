use Rattle.tantivy_query_grammar.proofs.Fields.{none_begins, none_left}
use Rattle.tantivy_query_grammar.proofs.leaves.begins_field.Goals as goal

pub returns-in-Some : goal.returns-in-Some
returns-in-Some c = λ h. none_begins c.args.at.text.now c.args.at.starts.now c.in-Some.begins.now c.args.at.fits c.in-Some.ensures.value h

pub returns-in-None : goal.returns-in-None
returns-in-None c = λ h. none_left c.args.at.text.now c.args.at.starts.now c.args.at.fits c.in-None.ensures.value
