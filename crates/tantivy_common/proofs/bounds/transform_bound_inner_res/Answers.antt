use Rattle.std.proofs.Common.{refl, ap, Ok, Err}
use Rattle.std.specs.Fn.{FnReturnsAt}
use Rattle.std.proofs.lemmas.Fn.{says_at}
use Rattle.tantivy_common.proofs.BoundKinds.{renewed_included, renewed_excluded, kept_included, kept_excluded, failed_included, failed_excluded}
use Rattle.tantivy_common.proofs.bounds.transform_bound_inner_res.Goals as goal

pub returns-in-Ok-NewBound-clause-ok : goal.returns-in-Ok-NewBound-clause-ok
returns-in-Ok-NewBound-clause-ok g c = renewed_included (λ x t. FnReturnsAt g.F.Fn c.args.transform x (Ok t)) c.args.bound.now c.in-Included.value c.in-Ok-NewBound.new (says_at g.F.Fn c.in-Ok-NewBound.ensures (ap Ok c.in-Ok-NewBound.field-0-is)) c.in-Included.is

pub returns-in-Ok-Existing-clause-ok : goal.returns-in-Ok-Existing-clause-ok
returns-in-Ok-Existing-clause-ok g c = kept_included (λ x t. FnReturnsAt g.F.Fn c.args.transform x (Ok t)) c.args.bound.now c.in-Included.value c.in-Ok-Existing.new (says_at g.F.Fn c.in-Ok-Existing.ensures (ap Ok c.in-Ok-Existing.field-0-is)) c.in-Included.is

pub returns-in-Ok-NewBound-transform-clause-ok : goal.returns-in-Ok-NewBound-transform-clause-ok
returns-in-Ok-NewBound-transform-clause-ok g c = renewed_excluded (λ x t. FnReturnsAt g.F.Fn c.args.transform x (Ok t)) c.args.bound.now c.in-Excluded.value c.in-Ok-NewBound-transform.new (says_at g.F.Fn c.in-Ok-NewBound-transform.ensures (ap Ok c.in-Ok-NewBound-transform.field-0-is)) c.in-Excluded.is

pub returns-in-Ok-Existing-transform-clause-ok : goal.returns-in-Ok-Existing-transform-clause-ok
returns-in-Ok-Existing-transform-clause-ok g c = kept_excluded (λ x t. FnReturnsAt g.F.Fn c.args.transform x (Ok t)) c.args.bound.now c.in-Excluded.value c.in-Ok-Existing-transform.new (says_at g.F.Fn c.in-Ok-Existing-transform.ensures (ap Ok c.in-Ok-Existing-transform.field-0-is)) c.in-Excluded.is

pub returns-in-Included-clause-err : goal.returns-in-Included-clause-err
returns-in-Included-clause-err g c = failed_included (λ x. FnReturnsAt g.F.Fn c.args.transform x (Err c.in-Err.e)) c.args.bound.now c.in-Included.value (says_at g.F.Fn c.in-Err.ensures refl) c.in-Included.is

pub returns-in-Excluded-clause-err : goal.returns-in-Excluded-clause-err
returns-in-Excluded-clause-err g c = failed_excluded (λ x. FnReturnsAt g.F.Fn c.args.transform x (Err c.in-Err-transform.e)) c.args.bound.now c.in-Excluded.value (says_at g.F.Fn c.in-Err-transform.ensures refl) c.in-Excluded.is
