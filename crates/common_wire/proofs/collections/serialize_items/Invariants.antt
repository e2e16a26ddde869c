-- The items so far were appended, and no count has fallen.
use Rattle.std.proofs.Common.{◌≤◌, take}
use Rattle.std.specs.List.{flat_map}
use Rattle.std.specs.Io.KnownBytes.{Appends}
use Rattle.common_wire.proofs.collections.serialize_items.Given as goal

abbrev pub invariant-loop-item : goal.invariant-loop-item
invariant-loop-item g l = record {
  appended : Appends (g.W.Sink.written l.initial.writer) (g.W.Sink.written l.writer) (flat_map (λ x. g.T.BinarySerializable.wire (g.T.BinarySerializable.as_written (g.T.BinarySerializable.shown x))) (take l.item-index l.items));
  later : g.W.Sink.faults l.initial.writer ≤ g.W.Sink.faults l.writer;
}
