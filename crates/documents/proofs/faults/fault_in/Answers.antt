use Rattle.std.proofs.Common.{◌≡◌, ◌∙◌, ap, sym, subst, refl, None}
use Rattle.std.specs.Prelude.{slice_get}
use Rattle.std.proofs.lemmas.List.Elements.{All-more}
use Rattle.documents.specs.Documents.{IsValidPair, fault_of}
use Rattle.documents.proofs.FirstFault.{no_fault_at}
use Rattle.documents.proofs.faults.fault_in.Goals as goal

pub loop-place-preserved : goal.loop-place-preserved
loop-place-preserved c =
    let pairs = c.as_slice-pair-items.result.now in
    let i = c.loop-place.place in
    let pair = c.pair-item.result in
    let none : fault_of pair ≡ None = sym c.in_default.ensures.value in
    let valid : IsValidPair pair = c.in_default.ensures.none.0 refl in
    record {
      rest = ap (λ fs. slice_get fs 0) (sym (no_fault_at c.args.number pairs i pair c.loop-place-test.true c.pair-item.is none)) ∙ c.loop-place.invariant.rest;
      valid = All-more IsValidPair pairs i pair c.loop-place-test.true c.loop-place.invariant.valid (subst IsValidPair c.pair-item.is valid);
    }
