-- The front of the buffer was taken, and no count has fallen.
use Rattle.std.proofs.Common.{◌-◌, ◌≤◌, length, take}
use Rattle.std.specs.Io.KnownBytes.{Consumes}
use Rattle.common_wire.proofs.reading.read_exact.Given as goal

abbrev pub invariant-loop-at : goal.invariant-loop-at
invariant-loop-at g l = record {
  within : l.at ≤ length l.buf;
  gone : Consumes (g.R.Source.left l.initial.reader) (g.R.Source.left l.reader) (take l.at l.buf);
  later : g.R.Source.faults l.initial.reader ≤ g.R.Source.faults l.reader;
  taken : g.R.Source.taken l.initial.reader ≤ g.R.Source.taken l.reader;
}

abbrev pub decreases-loop-at : goal.decreases-loop-at
decreases-loop-at g l = length l.buf - l.at
