use Rattle.std.proofs.Common.{◌≡◌, drop}
use Rattle.index_reading.proofs.Rising.{least_after}
use Rattle.index_reading.proofs.unpack.are_numbers.Given as goal

abbrev pub invariant-loop-value : goal.invariant-loop-value
invariant-loop-value l = least_after l.documents l.least (drop l.value-index l.values) ≡ least_after l.documents 0 l.values
