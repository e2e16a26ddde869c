use Rattle.std.proofs.Common.{◌++◌, ◌∷◌, [], ap, sym, ◌∙◌, arith}
use Rattle.std.specs.List.{range_with_len}
use Rattle.document_sets.proofs.Lists.{range-next, rising-all}
use Rattle.document_sets.proofs.document_set.all_below.Goals as goal

pub loop-number-preserved : goal.loop-number-preserved
loop-number-preserved c =
    c.in_ok-push.ensures.ok ∙ ap (λ xs. xs ++ c.loop-number.number ∷ []) c.loop-number.invariant ∙ range-next c.loop-number.number

pub returns : goal.returns
returns c =
    c.loop-number.invariant ∙ ap (range_with_len 0) (omega (arith, c.loop-number-test.false, c.loop-number.auto.number-end))
    ∙ sym (rising-all c.args.bound)
