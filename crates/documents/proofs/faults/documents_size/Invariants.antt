use Rattle.std.proofs.Common.{◌≡◌, take, min, ◌^◌, ◌-◌}
use Rattle.documents.specs.Documents.{documents_size}
use Rattle.documents.proofs.faults.documents_size.Given as goal

abbrev pub invariant-loop-doc : goal.invariant-loop-doc
invariant-loop-doc l = l.total ≡ min (documents_size (take l.doc-index l.docs)) (2 ^ 64 - 1)
