-- The items so far were taken, and no count has fallen.
use Rattle.std.proofs.Common.{◌-◌, ◌≤◌, map}
use Rattle.common_wire.specs.Taking.{counted}
use Rattle.common_wire.proofs.FromSources.{GoesOn}
use Rattle.common_wire.proofs.ListsRead.{values_left}
use Rattle.common_wire.proofs.collections.deserialize_items.Given as goal

abbrev pub invariant-loop-turn : goal.invariant-loop-turn
invariant-loop-turn g l = record {
  goes_on : GoesOn (counted l.len g.T.BinarySerializable.taking) (values_left g.T.BinarySerializable.taking (map g.T.BinarySerializable.shown l.items.items) (l.len - l.turn)) (g.R.Source.left l.initial.reader) (g.R.Source.left l.reader);
  later : g.R.Source.faults l.initial.reader ≤ g.R.Source.faults l.reader;
  taken : g.R.Source.taken l.initial.reader ≤ g.R.Source.taken l.reader;
}
