use Rattle.std.proofs.Common.{◌+◌, ◌-◌, ◌*◌, ◌≤◌}
use Rattle.common_wire.specs.Wire.{groups_below}
use Rattle.common_wire.specs.Serialized.{limit}
use Rattle.common_wire.proofs.FromSources.{GroupsRead}
use Rattle.common_wire.proofs.VintLaws.{fits_below}
use Rattle.common_wire.proofs.groups.read_groups.Given as goal

abbrev pub invariant-loop-turn : goal.invariant-loop-turn
invariant-loop-turn g l = record {
  read : GroupsRead (groups_below l.more l.top) (fits_below (limit l.more * l.top)) (l.more + 1 - l.turn) l.turn l.value l.scale (g.R.Source.left l.initial.reader) (g.R.Source.left l.reader);
  later : g.R.Source.faults l.initial.reader ≤ g.R.Source.faults l.reader;
  taken : g.R.Source.taken l.initial.reader ≤ g.R.Source.taken l.reader;
}
