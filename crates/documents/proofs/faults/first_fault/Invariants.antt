-- The first fault of the documents that are left is that of all, and the documents so far have none.
use Rattle.std.proofs.Common.{◌≡◌, drop, take, All}
use Rattle.documents.specs.Documents.{IsValidPair, first_fault, first_from}
use Rattle.documents.proofs.faults.first_fault.Given as goal

abbrev pub invariant-loop-number : goal.invariant-loop-number
invariant-loop-number l = record {
  rest : first_from l.number (drop l.number l.docs) ≡ first_fault l.docs;
  valid : All (λ doc. All IsValidPair doc.pairs) (take l.number l.docs);
}
