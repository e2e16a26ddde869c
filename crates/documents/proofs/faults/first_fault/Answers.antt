use Rattle.std.proofs.Common.{◌≡◌, ◌∙◌, sym, subst, refl, None, All}
use Rattle.std.specs.Prelude.{slice_get}
use Rattle.std.proofs.lemmas.List.Elements.{All-more}
use Rattle.documents.specs.declared.documents.Doc.{Doc}
use Rattle.documents.specs.Documents.{IsValidPair, faults_from}
use Rattle.documents.proofs.FirstFault.{first_at, first_after}
use Rattle.documents.proofs.faults.first_fault.Goals as goal

pub returns-in-Some-clause-value : goal.returns-in-Some-clause-value
returns-in-Some-clause-value c =
    let doc = c.index-docs-number.result in
    sym (first_at c.args.docs.now c.loop-number.number doc c.loop-number-test.true c.index-docs-number.is c.in-Some.found (sym c.in-Some.ensures.value)) ∙ c.loop-number.invariant.rest

pub loop-number-preserved : goal.loop-number-preserved
loop-number-preserved c =
    let docs = c.args.docs.now in
    let i = c.loop-number.number in
    let doc = c.index-docs-number.result in
    let none : slice_get (faults_from i 0 doc.pairs) 0 ≡ None = sym c.in_default.ensures.value in
    let valid : All IsValidPair doc.pairs = c.in_default.ensures.none.0 refl in
    let AllValid : Doc → Type 0 = λ d. All IsValidPair d.pairs in
    record {
      rest = sym (first_after docs i doc c.loop-number-test.true c.index-docs-number.is none) ∙ c.loop-number.invariant.rest;
      valid = All-more AllValid docs i doc c.loop-number-test.true c.loop-number.invariant.valid (subst AllValid c.index-docs-number.is valid);
    }
