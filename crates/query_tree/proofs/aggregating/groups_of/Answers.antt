use Rattle.query_tree.proofs.Grouping.{added_holds, operand_added}
use Rattle.query_tree.proofs.aggregating.groups_of.Goals as goal

pub loop-item-preserved : goal.loop-item-preserved
loop-item-preserved c = record {
  held = added_holds c.add.new.self c.in-Some.item c.loop-item.after c.loop-item.yielded c.loop-item.invariant.after (c.in_ok-add.ensures _ c.loop-item.invariant.held);
  after = operand_added c.in-Some.item c.loop-item.yielded;
}
