-- What is read as digits are digits.
use lib.Utf8
use Rattle.std.proofs.Common.{◌≡◌, ◌∙◌, sym, ap, subst, refl, ℕ, zero, suc, ◌+◌, ◌<◌, ◌≤◌, Bool, true, false, ◌&&◌, leb, ltb, List, [], ◌∷◌, ◌++◌, length, length-append, Result, Ok, Err, IfOk, arith}
use Rattle.std.specs.Prelude.{encode_utf8}
use Rattle.std.specs.List.{list_all}
use Rattle.std.specs.Char.{is_ascii_digit}
use Rattle.std.proofs.lemmas.Bool.{and_parts, lt-ltb, leb-true}
use Rattle.std.proofs.lemmas.List.Folds.{list_all-append}
use Rattle.query_tree.specs.Decimals.{AreDigits}
use Rattle.query_tree.specs.Reader.{Outcome, Found, Failed, Deep, and_then, pure, one, joined_up_to, joined}
use Rattle.query_tree.specs.Grammar.{digit, digits}
use Rattle.tantivy_query_grammar.specs.declared.cursor.Cursor.{Cursor}
use Rattle.tantivy_query_grammar.specs.declared.stop.Stop.{Stop}
use Rattle.tantivy_query_grammar.specs.Gives.{Reads}

abbrev found_text : Outcome (List ℕ) → List ℕ
found_text (Found text rest) = text
found_text Failed = []
found_text Deep = []

one_byte : (c : ℕ) → is_ascii_digit c ≡ true → encode_utf8 c ≡ c ∷ []
unfolding lib.Utf8.encode
one_byte c h =
    let parts : (leb 48 c ≡ true) × (leb c 57 ≡ true) = and_parts (leb 48 c) (leb c 57) h in
    let small : c ≤ 57 = leb-true c 57 parts.1 in
    let less : ltb c 128 ≡ true = lt-ltb c 128 (omega arith) in
    rw less

both_digits : (a b : List ℕ) → AreDigits a → AreDigits b → AreDigits (a ++ b)
both_digits a b h k = list_all-append is_ascii_digit a b ∙ ap (λ x. x && list_all is_ascii_digit b) h ∙ k

digit_found : (text found rest : List ℕ) → digit text ≡ Found found rest → AreDigits found × (0 < length found)
unfolding one
digit_found [] found rest h = cc
digit_found (c ∷ cs) found rest h =
    let by : (b : Bool) → is_ascii_digit c ≡ b → AreDigits found × (0 < length found) =
    λ b. elim b as (λ v. is_ascii_digit c ≡ v → AreDigits found × (0 < length found)) [
      | true ↦ λ e.
          let read : Found (encode_utf8 c) cs ≡ Found found rest = rw e at h in
          let is : found ≡ c ∷ [] = sym (ap found_text read) ∙ one_byte c e in
          (ap (list_all is_ascii_digit) is ∙ ap (λ x. x && true) e, let n : length found ≡ 1 = ap length is in omega arith)
      | false ↦ λ e. let read : Failed ≡ Found found rest = rw e at h in cc
    ]
    in by (is_ascii_digit c) refl

joined_found : (n : ℕ) (text found rest : List ℕ) → joined_up_to n digit text ≡ Found found rest → AreDigits found
unfolding joined_up_to
joined_found zero text found rest h = ap (list_all is_ascii_digit) (sym (ap found_text h))
joined_found (suc n) text found rest h =
    let by : (o : Outcome (List ℕ)) → digit text ≡ o → AreDigits found =
    λ o. elim o as (λ v. digit text ≡ v → AreDigits found) [
      | Found first after ↦ λ e.
          let whole : and_then (joined_up_to n digit after) (λ others. pure (first ++ others)) ≡ Found found rest = rw e at h in
          others first after (digit_found text first after e).0 (joined_found n after) (joined_up_to n digit after) refl whole
      | Failed ↦ λ e. let none : Found [] text ≡ Found found rest = rw e at h in ap (list_all is_ascii_digit) (sym (ap found_text none))
      | Deep ↦ λ e. let deep : Deep ≡ Found found rest = rw e at h in cc
    ]
    in by (digit text) refl
  where
    others : (first after : List ℕ) → AreDigits first → ((more end : List ℕ) → joined_up_to n digit after ≡ Found more end → AreDigits more)
        → (o : Outcome (List ℕ)) → joined_up_to n digit after ≡ o → and_then o (λ more. pure (first ++ more)) ≡ Found found rest → AreDigits found
    others first after is again (Found more end) e h = ap (list_all is_ascii_digit) (sym (ap found_text h)) ∙ both_digits first more is (again more end e)
    others first after is again Failed e h = cc
    others first after is again Deep e h = cc

digits_found : (text found rest : List ℕ) → digits text ≡ Found found rest → AreDigits found × (0 < length found)
unfolding digits
digits_found text found rest h =
    let by : (o : Outcome (List ℕ)) → digit text ≡ o → AreDigits found × (0 < length found) =
    λ o. elim o as (λ v. digit text ≡ v → AreDigits found × (0 < length found)) [
      | Found first after ↦ λ e.
          let whole : and_then (joined digit after) (λ others. pure (first ++ others)) ≡ Found found rest = rw e at h in
          others first after (digit_found text first after e) (joined digit after) refl whole
      | Failed ↦ λ e. let none : Failed ≡ Found found rest = rw e at h in cc
      | Deep ↦ λ e. let deep : Deep ≡ Found found rest = rw e at h in cc
    ]
    in by (digit text) refl
  where
    others : (first after : List ℕ) → AreDigits first × (0 < length first) → (o : Outcome (List ℕ)) → joined digit after ≡ o → and_then o (λ more. pure (first ++ more)) ≡ Found found rest → AreDigits found × (0 < length found)
    others first after is (Found more end) e h =
        let same : found ≡ first ++ more = sym (ap found_text h) in (
          ap (list_all is_ascii_digit) same ∙ both_digits first more is.0 (joined_found (length after) after more end e),
          let n : length found ≡ length first + length more = ap length same ∙ length-append first more in let m : 0 < length first = is.1 in omega arith,
        )
    others first after is Failed e h = cc
    others first after is Deep e h = cc

pub gives_digits : (result : Result (List ℕ × Cursor) Stop) (text : List ℕ) → Reads result (digits text) → IfOk result (λ x. AreDigits x.0)
gives_digits (Ok x) text h = (digits_found text x.0 x.1.text.now h).0
gives_digits (Err e) text h = tt

pub gives_some : (result : Result (List ℕ × Cursor) Stop) (text : List ℕ) → Reads result (digits text) → IfOk result (λ x. 0 < length x.0)
gives_some (Ok x) text h = (digits_found text x.0 x.1.text.now h).1
gives_some (Err e) text h = tt
