use Rattle.std.proofs.Common.{◌≡◌, ◌∙◌, ap, sym, Some, map, List, ℕ}
use Rattle.std.specs.Prelude.{⊤, string_bytes}
use Rattle.std.proofs.lemmas.Result.{on_ok_weaker, MatchResult-weaker}
use Rattle.serde_json.specs.View.{view}
use Rattle.serde_json.specs.declared.value.Value.{Value}
use Rattle.serde_json.specs.declared.value.Value as variant
use Rattle.serde_json.proofs.Views.{view-Array}
use Rattle.std.proofs.Common.{Vec, Global}
use Rattle.term_index.specs.Reading.{both, gathered, pair_of_text, pairs_of_member}
use Rattle.term_index.proofs.Values.{values-items_of}
use Rattle.term_index.proofs.reading.read_member.Goals as goal

-- the pairs of an array are those of its texts
of_array : (name same_name : List ℕ) (value : Value) (texts : Vec Value Global) → value ≡ variant.Array texts → same_name ≡ name → pairs_of_member name (view value) ≡ gathered (pair_of_text same_name) (map view texts.items)
of_array name same_name value texts is same =
    ap (λ (v : Value). pairs_of_member name (view v)) is ∙ ap (pairs_of_member name) (view-Array texts) ∙ ap (gathered (pair_of_text name)) (values-items_of (map view texts.items)) ∙ ap (λ n. gathered (pair_of_text n) (map view texts.items)) (sym same)

pub returns-in-Array-clause-ok : goal.returns-in-Array-clause-ok
returns-in-Array-clause-ok c =
    let same = of_array (string_bytes c.args.name) c.as_str.result.now c.args.value c.in-Array.texts c.in-Array.is c.as_str.ensures.value in
    on_ok_weaker c.read_texts.result (λ e. ap (both (Some c.args.pairs.now)) same ∙ e) c.read_texts.ensures.ok

pub returns-in-Array-clause-bad : goal.returns-in-Array-clause-bad
returns-in-Array-clause-bad c =
    let same = of_array (string_bytes c.args.name) c.as_str.result.now c.args.value c.in-Array.texts c.in-Array.is c.as_str.ensures.value in
    MatchResult-weaker c.read_texts.result {P = λ _. ⊤} {P' = λ _. ⊤} (c.read_texts.ensures.bad) (λ _ p. p) (λ e f bad. same ∙ f bad)
