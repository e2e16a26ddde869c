use Rattle.std.proofs.Common.{◌∙◌, ap, sym, Option}
use Rattle.query_tree.specs.declared.tree.Occur.{Occur}
use Rattle.std.specs.FinSet.{contains}
use Rattle.term_search.specs.Members.{marks_at, with_mark}
use Rattle.term_search.proofs.Clauses.{joins_unmarked}
use Rattle.term_search.proofs.members.join.Goals as goal

pub returns-in-Some-clause-marks : goal.returns-in-Some-clause-marks
returns-in-Some-clause-marks c = λ i. c.join_marked.ensures.marks i ∙ ap (λ (m : Option Occur). with_mark (marks_at i c.args.joined.now) m (contains c.args.members.elements i)) (sym c.in-Some.is)

pub returns-in-None-clause-marks : goal.returns-in-None-clause-marks
returns-in-None-clause-marks c = λ i. joins_unmarked i c.args.joined.now _ c.args.mark c.args.members.elements c.in-None.is c.offer.ensures
