use Rattle.std.proofs.Common.{◌∙◌}
use Rattle.term_search.proofs.Found.{looked_up, posts_nowhere}
use Rattle.term_search.proofs.Asking.{asks_term, as_read}
use Rattle.term_search.proofs.members.numbers_at.Goals as goal

pub returns-then-not-is_field-clause-found : goal.returns-then-not-is_field-clause-found
returns-then-not-is_field-clause-found g c = posts_nowhere _ _ c.args.field.now c.args.term.now c.is_field.result c.if-not-is_field.true c.is_field.ensures.fact

pub returns-in-Ok-clause-found : goal.returns-in-Ok-clause-found
returns-in-Ok-clause-found g c =
    looked_up _ _ c.args.field.now c.args.term.now c.as_slice.result.now c.in-Ok.numbers (c.as_slice.ensures ∙ c.in_ok-key.ensures) (c.is_field.ensures.fact.0 c.if-not-is_field.false) c.in-Ok.ensures.found

pub returns-in-Ok-clause-asks : goal.returns-in-Ok-clause-asks
returns-in-Ok-clause-asks g c =
    asks_term _ c.args.field.now c.args.term.now c.as_slice.result.now _ _ _ _ (c.as_slice.ensures ∙ c.in_ok-key.ensures) (c.is_field.ensures.fact.0 c.if-not-is_field.false)
    c.in-Ok.ensures.file (λ failed. absurd failed) c.in-Ok.ensures.reads c.in-Ok.ensures.fetched

pub returns-clause-asks : goal.returns-clause-asks
returns-clause-asks g c =
    asks_term _ c.args.field.now c.args.term.now c.as_slice.result.now _ _ _ _ (c.as_slice.ensures ∙ c.in_ok-key.ensures) (c.is_field.ensures.fact.0 c.if-not-is_field.false)
    c.in-Err.ensures.file (as_read c.in-Err.error c.into.result c.into.ensures) c.in-Err.ensures.reads c.in-Err.ensures.fetched
