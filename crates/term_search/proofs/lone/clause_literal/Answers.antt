use Rattle.std.proofs.Common.{◌∙◌, sym}
use Rattle.term_search.proofs.Trees.{lone_in}
use Rattle.term_search.proofs.lone.clause_literal.Goals as goal

pub returns-in-Some : goal.returns-in-Some
returns-in-Some c =
    lone_in c.args.pairs.now c.index-pairs-0.result c.in-Some.literal.now c.if-pairs-ne1.false c.index-pairs-0.is (sym c.is_must_not.ensures ∙ c.if-is_must_not.false) c.in-Some.ensures
