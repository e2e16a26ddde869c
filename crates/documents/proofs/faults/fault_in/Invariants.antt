-- The first fault of the pairs that are left is that of all, and the pairs so far have none.
use Rattle.std.proofs.Common.{◌≡◌, drop, take, All}
use Rattle.std.specs.Prelude.{slice_get}
use Rattle.documents.specs.Documents.{IsValidPair, faults_from}
use Rattle.documents.proofs.faults.fault_in.Given as goal

abbrev pub invariant-loop-place : goal.invariant-loop-place
invariant-loop-place l = record {
  rest : slice_get (faults_from l.number l.place (drop l.place l.pair-items)) 0 ≡ slice_get (faults_from l.number 0 l.pair-items) 0;
  valid : All IsValidPair (take l.place l.pair-items);
}
