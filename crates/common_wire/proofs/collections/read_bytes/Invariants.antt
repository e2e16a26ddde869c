-- The bytes so far were taken, and no count has fallen.
use Rattle.std.proofs.Common.{◌-◌, ◌≤◌, length}
use Rattle.std.specs.Io.KnownBytes.{Consumes}
use Rattle.common_wire.proofs.collections.read_bytes.Given as goal

abbrev pub invariant-loop-buf : goal.invariant-loop-buf
invariant-loop-buf g l = record {
  within : length l.bytes.items ≤ l.count;
  gone : Consumes (g.R.Source.left l.initial.reader) (g.R.Source.left l.reader) l.bytes.items;
  later : g.R.Source.faults l.initial.reader ≤ g.R.Source.faults l.reader;
  taken : g.R.Source.taken l.initial.reader ≤ g.R.Source.taken l.reader;
}

abbrev pub decreases-loop-buf : goal.decreases-loop-buf
decreases-loop-buf g l = l.count - length l.bytes.items
