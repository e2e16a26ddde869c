use Rattle.std.proofs.Common.{sym, ap, ◌∙◌, inl, inr, refl}
use Rattle.std.proofs.lemmas.Bool.{false≢true}
use Rattle.std.proofs.lemmas.List.{drop_all}
use Rattle.index_reading.proofs.Rising.{least_after, least-step, least-stop, not_rising, rises}
use Rattle.index_reading.proofs.unpack.are_numbers.Goals as goal
use Rattle.index_reading.proofs.unpack.are_numbers.Goals.{then-value-least-via-then-value-least, then-value-least-via-else-value-least+then-value-documents}

pub returns-then-value-least : goal.returns-then-value-least
returns-then-value-least c =
    let stop = least-stop c.args.documents c.loop-value.least c.args.values.now c.loop-value.value-index c.loop-value-test.true in
    elim c.then-value-least.branch [
      | then-value-least-via-then-value-least w ↦ (λ is. absurd (false≢true is), λ numbers. absurd (not_rising c.args.documents c.args.values.now (sym c.loop-value.invariant ∙ stop (inl w.if-value-least.true)) numbers))
      | then-value-least-via-else-value-least+then-value-documents w ↦ (λ is. absurd (false≢true is), λ numbers. absurd (not_rising c.args.documents c.args.values.now (sym c.loop-value.invariant ∙ stop (inr w.if-value-documents.true)) numbers))
    ]

pub loop-value-preserved : goal.loop-value-preserved
loop-value-preserved c =
    sym (least-step c.args.documents c.loop-value.least c.args.values.now c.loop-value.value-index c.loop-value-test.true c.if-value-least.false c.if-value-documents.false) ∙ c.loop-value.invariant

pub returns : goal.returns
unfolding least_after
returns c =
    let all = sym c.loop-value.invariant ∙ ap (least_after c.args.documents c.loop-value.least) (drop_all c.loop-value.value-index c.args.values.now c.loop-value-test.false) in
    (λ is. rises c.args.documents c.args.values.now c.loop-value.least all, λ numbers. refl)
