use Rattle.std.proofs.Common.{◌≡◌, ℕ, List, Bool, true, false, ap, sym, refl, Vec, Global, ◌∙◌}
use Rattle.std.specs.Prelude.{string_bytes, IsUtf8}
use Rattle.std.specs.Str.{is_utf8}
use Rattle.std.proofs.lemmas.Str.{is_utf8-from_IsUtf8, IsUtf8-from_is_utf8, IsUtf8-string_bytes}
use Rattle.std.proofs.lemmas.Result.{err_from_is_err_and}
use Rattle.common_wire.specs.Taking.{bytes_of}
use Rattle.common_wire.specs.Wire.{text_of}
use Rattle.common_wire.specs.TakingLaws.{IsTaking-bytes_of}
use Rattle.common_wire.proofs.ListsRead.{Takes-passed, Takes-refused, Takes-untested, Takes-as}
use Rattle.common_wire.proofs.collections.read_text.Goals as goal

abbrev held : Vec ℕ Global → List ℕ
held v = v.items

not_utf8 : (bytes : List ℕ) → (IsUtf8 bytes → ⊥) → is_utf8 bytes ≡ false
not_utf8 bytes never = by (is_utf8 bytes) refl
  where
    by : (b : Bool) → is_utf8 bytes ≡ b → b ≡ false
    by true is = absurd (never (IsUtf8-from_is_utf8 bytes is))
    by false is = refl

pub returns-in_err-bytes-clause-bytes : goal.returns-in_err-bytes-clause-bytes
unfolding text_of
returns-in_err-bytes-clause-bytes g c =
    let p = err_from_is_err_and c.from_residual.result c.from_residual.ensures.1 in
    rw (p.1, p.2) (Takes-untested held (bytes_of c.args.count) is_utf8 string_bytes _ _ _ c.in_err-bytes.ensures.bytes)

pub returns-in-Ok-clause-bytes : goal.returns-in-Ok-clause-bytes
unfolding text_of
returns-in-Ok-clause-bytes g c =
    let same : c.in_ok-bytes.bytes.items ≡ string_bytes c.in-Ok.text = sym (ap held c.in-Ok.ensures.ok) in
    Takes-as held string_bytes (text_of c.args.count) _ _ c.in_ok-bytes.bytes c.in-Ok.text same
    (Takes-passed held (bytes_of c.args.count) is_utf8 (IsTaking-bytes_of c.args.count) _ _ c.in_ok-bytes.bytes
    (ap is_utf8 same ∙ is_utf8-from_IsUtf8 (string_bytes c.in-Ok.text) (IsUtf8-string_bytes c.in-Ok.text)) c.in_ok-bytes.ensures.bytes)

pub returns-clause-bytes : goal.returns-clause-bytes
unfolding text_of
returns-clause-bytes g c =
    Takes-refused held (bytes_of c.args.count) is_utf8 string_bytes (IsTaking-bytes_of c.args.count) _ _ c.in_ok-bytes.bytes (not_utf8 c.in_ok-bytes.bytes.items (λ utf8. absurd (not_ok (c.in-Err.ensures.succeeds utf8)))) c.in_ok-bytes.ensures.bytes
  where
    not_ok : false ≡ true → ⊥
    not_ok e = cc
