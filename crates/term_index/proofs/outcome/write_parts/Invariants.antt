-- The parts so far are written.
use Rattle.std.proofs.Common.{◌≤◌, take, map, Bor, List, ℕ}
use Rattle.std.specs.Io.KnownBytes.{Appends}
use Rattle.term_index.specs.Outcomes.{joined}
use Rattle.term_index.proofs.outcome.write_parts.Given as goal

abbrev pub invariant-loop-part : goal.invariant-loop-part
invariant-loop-part g l = record {
  written : Appends (g.P.Sink.written l.initial.sink) (g.P.Sink.written l.sink) (joined (map (λ (part : Bor (List ℕ)). part.now) (take l.part-index l.parts)));
  later : g.P.Sink.faults l.initial.sink ≤ g.P.Sink.faults l.sink;
}
