-- One part more, and a part that fails behind those that were written.
use Rattle.std.proofs.Common.{◌≡◌, ◌+◌, ◌<◌, ℕ, List, ◌++◌, ◌∷◌, [], map, take, drop, length, get_or, Bor, refl, sym, ap, ◌∙◌, subst, arith, append_assoc, append-nil, take-append-drop, Option, Result, Ok, Err}
use Rattle.std.specs.Prelude.{IsErr}
use Rattle.std.proofs.lemmas.List.{take_more, drop_more}
use Rattle.std.specs.Io.KnownBytes.{Appends}
use Rattle.std.proofs.KnownBytes.{Appends-trans}
use Rattle.owned_bytes.specs.Outside.{AppendsPrefix, WritesAll}
use Rattle.term_index.specs.Outcomes.{joined}
use Rattle.term_index.proofs.Prefixes.{AppendsPrefix-behind, AppendsPrefix-longer}
use Rattle.term_index.proofs.outcome.write_parts.Goals as goal

text_of : List (Bor (List ℕ)) → List ℕ
text_of parts = joined (map (λ (part : Bor (List ℕ)). part.now) parts)

text_of-append : (xs ys : List (Bor (List ℕ))) → text_of (xs ++ ys) ≡ text_of xs ++ text_of ys
unfolding text_of
text_of-append [] ys = refl
text_of-append (x ∷ xs) ys = ap (λ t. x.now ++ t) (text_of-append xs ys) ∙ sym (append_assoc x.now (text_of xs) (text_of ys))

more : (parts : List (Bor (List ℕ))) (i : ℕ) (d : Bor (List ℕ)) → i < length parts → text_of (take (i + 1) parts) ≡ text_of (take i parts) ++ (get_or parts i d).now
unfolding text_of
more parts i d within =
    ap text_of (take_more parts i d within) ∙ text_of-append (take i parts) (get_or parts i d ∷ []) ∙ ap (λ t. text_of (take i parts) ++ t) (append-nil (get_or parts i d).now)

rest : (parts : List (Bor (List ℕ))) (i : ℕ) (d : Bor (List ℕ)) → i < length parts → text_of parts ≡ text_of (take i parts) ++ ((get_or parts i d).now ++ text_of (drop (i + 1) parts))
unfolding text_of
rest parts i d within =
    ap text_of (sym (take-append-drop i parts) ∙ ap (λ l. take i parts ++ l) (drop_more parts i d within)) ∙ text_of-append (take i parts) (get_or parts i d ∷ drop (i + 1) parts)

failed_is_err : {T E : Type 0} (result : Result T E) (old new : Option (List ℕ)) (text : List ℕ) → IsErr result → AppendsPrefix old new text → WritesAll old new result text
failed_is_err (Ok x) old new text is failed = cc
failed_is_err (Err e) old new text is failed = failed

pub loop-part-preserved : goal.loop-part-preserved
unfolding text_of
loop-part-preserved g c =
    let parts = c.args.parts.now in
    let i = c.loop-part.part-index in
    record {
      written = subst (Appends (g.P.Sink.written c.args.sink.now) (g.P.Sink.written c.write_all.new.self))
          (ap (λ t. text_of (take i parts) ++ t) c.as_bytes.ensures.value ∙ sym (more parts i _ c.loop-part-test.true))
          (Appends-trans _ _ _ _ _ c.loop-part.invariant.written c.in_ok-write_all.ensures.bytes);
      later = omega arith;
    }

pub returns-in_err-write_all-clause-bytes : goal.returns-in_err-write_all-clause-bytes
unfolding text_of
returns-in_err-write_all-clause-bytes g c =
    let parts = c.args.parts.now in
    let i = c.loop-part.part-index in
    let failed : AppendsPrefix (g.P.Sink.written c.args.sink.now) (g.P.Sink.written c.write_all.new.self) (text_of parts) =
    subst (AppendsPrefix (g.P.Sink.written c.args.sink.now) (g.P.Sink.written c.write_all.new.self))
    (ap (λ t. text_of (take i parts) ++ (t ++ text_of (drop (i + 1) parts))) c.as_bytes.ensures.value ∙ sym (rest parts i _ c.loop-part-test.true))
    (AppendsPrefix-behind _ _ _ _ _ c.loop-part.invariant.written (AppendsPrefix-longer _ _ _ (text_of (drop (i + 1) parts)) c.in_err-write_all.ensures.bytes)) in
    failed_is_err c.from_residual.result _ _ _ c.from_residual.ensures.0 failed
