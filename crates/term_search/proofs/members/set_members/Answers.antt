use Rattle.term_search.proofs.Leaf.{finds_added}
use Rattle.term_search.proofs.members.set_members.Goals as goal

pub returns-in-Ok-clause-found : goal.returns-in-Ok-clause-found
returns-in-Ok-clause-found g c = finds_added _ _ _ c.empty-members.result _ c.empty-members.ensures c.in-Ok.ensures.over c.in-Ok.ensures.adds
