use Rattle.std.proofs.Common.{◌≡◌, take, min, ◌^◌, ◌-◌}
use Rattle.std.specs.Prelude.{sum_by}
use Rattle.documents.specs.Documents.{pair_size}
use Rattle.documents.proofs.faults.doc_size.Given as goal

abbrev pub invariant-loop-pair : goal.invariant-loop-pair
invariant-loop-pair l = l.total ≡ min (sum_by pair_size (take l.pair-index l.pair-items)) (2 ^ 64 - 1)
