use Rattle.std.proofs.Common.{◌≡◌, filter, drop}
use Rattle.tantivy_stacker.specs.Maps.{is_taken}
use Rattle.tantivy_stacker.proofs.map_iter.first_taken.Given as goal

abbrev pub invariant-loop-i : goal.invariant-loop-i
invariant-loop-i l = filter is_taken l.places ≡ filter is_taken (drop l.i l.places)
