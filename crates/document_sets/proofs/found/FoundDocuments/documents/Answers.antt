use Rattle.document_sets.proofs.Shapes.{found-proper}
use Rattle.document_sets.proofs.found.FoundDocuments.documents.Goals as goal

pub returns-clause-proper : goal.returns-clause-proper
returns-clause-proper c = found-proper _ c.self.inside.found _ c.self.invariant c.self.view_is
