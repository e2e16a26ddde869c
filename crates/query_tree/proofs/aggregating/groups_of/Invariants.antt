use Rattle.std.proofs.Common.{◌≡◌, reverse}
use Rattle.query_tree.specs.Aggregation.{grouped, operand_after}
use Rattle.query_tree.specs.Groups.{HoldsGroups}
use Rattle.query_tree.proofs.aggregating.groups_of.Given as goal

abbrev pub invariant-loop-item : goal.invariant-loop-item
invariant-loop-item l = record {
  held : HoldsGroups l.groups (grouped (reverse l.yielded));
  after : l.after ≡ operand_after (reverse l.yielded);
}
