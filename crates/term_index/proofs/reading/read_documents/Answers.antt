use Rattle.std.proofs.Common.{◌≡◌, ◌∙◌, ap, sym, None, true, false}
use Rattle.std.proofs.lemmas.Result.{IfOk-weaker}
use Rattle.std.proofs.lemmas.Str.{is_utf8-from_IsUtf8, IsUtf8-from_is_utf8}
use Rattle.std.specs.Prelude.{option_and_then, if◌then◌else◌, IsUtf8, ℕ, List}
use Rattle.std.specs.Str.{is_utf8}
use Rattle.std.proofs.Common.{inl, inr}
use Rattle.std.proofs.lemmas.Bool.{cases_Bool}
use Rattle.serde_json.specs.Read.{read}
use Rattle.term_index.specs.Reading.{docs_of_value, docs_of}
use Rattle.term_index.proofs.reading.read_documents.Goals as goal

false_is_not_true : false ≡ true → ⊥
false_is_not_true e = cc

-- bytes that are no text, or a text that is no JSON
not_read : (bytes : List ℕ) → (IsUtf8 bytes → read bytes ≡ None) → docs_of bytes ≡ None
not_read bytes refused = elim (cases_Bool (is_utf8 bytes)) [
  | inl yes_text ↦ ap (λ b. if b then option_and_then docs_of_value (read bytes) else None) yes_text ∙ ap (option_and_then docs_of_value) (refused (IsUtf8-from_is_utf8 bytes yes_text))
  | inr no_text ↦ ap (λ b. if b then option_and_then docs_of_value (read bytes) else None) no_text
]

pub returns-else-is_memory-clause-bad : goal.returns-else-is_memory-clause-bad
returns-else-is_memory-clause-bad c = λ bad.
    let refused = c.in-Err.ensures.err (λ memory. false_is_not_true (sym c.if-is_memory.false ∙ c.is_memory.ensures.1 memory)) in
    not_read _ refused

pub returns-clause-ok : goal.returns-clause-ok
returns-clause-ok c =
    let text = c.in-Ok.ensures.ok in
    let same = ap (λ b. if b then option_and_then docs_of_value (read c.args.bytes.now) else None) (is_utf8-from_IsUtf8 _ text.0) ∙ ap (option_and_then docs_of_value) text.1 in
    IfOk-weaker c.docs_of_value.result _ _ (λ docs e. same ∙ e) c.docs_of_value.ensures.ok
