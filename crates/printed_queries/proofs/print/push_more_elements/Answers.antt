use Rattle.printed_queries.proofs.Pushed.{element_pushed}
use Rattle.printed_queries.proofs.print.push_more_elements.Goals as goal

pub loop-text-preserved : goal.loop-text-preserved
loop-text-preserved c =
    element_pushed c.args.texts.now c.loop-text.text-index c.text-item.result _ _ _ c.loop-text-test.true c.text-item.is c.loop-text.invariant c.in_ok-push_element.ensures
