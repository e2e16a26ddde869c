use Rattle.std.proofs.Common.{◌≡◌, ◌∙◌, ap, map, Vec, Global}
use Rattle.std.specs.Prelude.{⊤}
use Rattle.std.proofs.lemmas.Result.{IfOk-weaker, MatchResult-weaker}
use Rattle.serde_json.specs.View.{view}
use Rattle.serde_json.specs.declared.value.Value.{Value}
use Rattle.serde_json.specs.declared.value.Value as variant
use Rattle.serde_json.proofs.Views.{view-Array}
use Rattle.term_index.specs.Reading.{gathered, doc_of, docs_of_value}
use Rattle.term_index.proofs.Values.{values-items_of}
use Rattle.term_index.proofs.reading.docs_of_value.Goals as goal

-- the documents of an array are those of its objects
of_array : (value : Value) (objects : Vec Value Global) → value ≡ variant.Array objects → docs_of_value (view value) ≡ gathered doc_of (map view objects.items)
of_array value objects is =
    ap (λ (v : Value). docs_of_value (view v)) is ∙ ap docs_of_value (view-Array objects) ∙ ap (gathered doc_of) (values-items_of (map view objects.items))

pub returns-in-Array-clause-ok : goal.returns-in-Array-clause-ok
returns-in-Array-clause-ok c =
    let same = of_array c.args.value c.in-Array.objects c.in-Array.is in
    IfOk-weaker c.read_docs.result _ _ (λ docs e. same ∙ e) c.read_docs.ensures.ok

pub returns-in-Array-clause-bad : goal.returns-in-Array-clause-bad
returns-in-Array-clause-bad c =
    let same = of_array c.args.value c.in-Array.objects c.in-Array.is in
    MatchResult-weaker c.read_docs.result {P = λ _. ⊤} {P' = λ _. ⊤} (c.read_docs.ensures.bad) (λ _ p. p) (λ e f bad. same ∙ f bad)
