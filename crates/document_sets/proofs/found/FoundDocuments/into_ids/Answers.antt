use Rattle.document_sets.proofs.Shapes.{listed-ids}
use Rattle.document_sets.proofs.found.FoundDocuments.into_ids.Goals as goal

pub returns-in-Listed : goal.returns-in-Listed
returns-in-Listed c = listed-ids _ c.self.inside.found _ _ c.self.invariant c.in-Listed.is c.self.view_is
