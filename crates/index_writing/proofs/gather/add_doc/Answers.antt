use Rattle.std.proofs.Common.{◌∙◌, subst, [], ◌∷◌, ◌++◌}
use Rattle.std.proofs.lemmas.List.{take_all}
use Rattle.index_writing.specs.Gathering.{Tells}
use Rattle.index_writing.proofs.Adding.{add-pair-at, tells-none}
use Rattle.index_writing.proofs.gather.add_doc.Goals as goal

pub loop-pair-init : goal.loop-pair-init
loop-pair-init c docs long tells = tells-none c.args.gathered.now docs tells

pub loop-pair-preserved : goal.loop-pair-preserved
loop-pair-preserved c docs long tells =
    add-pair-at c.loop-pair.gathered c.add_number.new.gathered docs c.as_slice-pair-items.result.now c.loop-pair.pair-index c.pair-item.result c.in_ok-key.key c.args.number
    c.loop-pair-test.true c.pair-item.is c.in_ok-key.ensures long (c.loop-pair.invariant docs long tells) c.in_ok-add_number.ensures

pub returns : goal.returns
returns c docs long tells =
    subst (λ pairs. Tells c.loop-pair.gathered (docs ++ record { pairs = pairs } ∷ [])) (take_all (c.loop-pair.pair-index) c.as_slice-pair-items.result.now c.loop-pair-test.false ∙ c.as_slice-pair-items.ensures) (c.loop-pair.invariant docs long tells)
