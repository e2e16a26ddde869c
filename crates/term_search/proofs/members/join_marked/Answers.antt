use Rattle.term_search.proofs.Clauses.{joins_must, joins_must_not, joins_should}
use Rattle.term_search.proofs.members.join_marked.Goals as goal

pub returns-in-Must-clause-marks : goal.returns-in-Must-clause-marks
returns-in-Must-clause-marks c = λ i. joins_must i c.args.joined.now _ c.args.occur c.args.members.elements c.in-Must.is c.require.ensures

pub returns-in-MustNot-clause-marks : goal.returns-in-MustNot-clause-marks
returns-in-MustNot-clause-marks c = λ i. joins_must_not i c.args.joined.now _ c.args.occur c.args.members.elements c.in-MustNot.is c.exclude.ensures

pub returns-in-Should-clause-marks : goal.returns-in-Should-clause-marks
returns-in-Should-clause-marks c = λ i. joins_should i c.args.joined.now _ c.args.occur c.args.members.elements c.in-Should.is c.offer.ensures
