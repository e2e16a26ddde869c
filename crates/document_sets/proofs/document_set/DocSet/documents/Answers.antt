use Rattle.document_sets.proofs.Shapes as shapes
use Rattle.document_sets.proofs.document_set.DocSet.documents.Goals as goal

pub returns-clause-proper : goal.returns-clause-proper
returns-clause-proper c = shapes.proper _ c.self.inside.members _ c.self.invariant c.self.view_is
