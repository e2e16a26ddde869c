use Rattle.std.proofs.Common.{refl, Ok, Err}
use Rattle.std.specs.Fn.{FnReturnsAt}
use Rattle.std.proofs.lemmas.Fn.{says_at}
use Rattle.tantivy_common.proofs.BoundKinds.{mapped_included, mapped_excluded, failed_included, failed_excluded}
use Rattle.tantivy_common.proofs.bounds.try_map_by.Goals as goal

pub returns-in-Ok-clause-ok : goal.returns-in-Ok-clause-ok
returns-in-Ok-clause-ok g c = mapped_included (λ x y. FnReturnsAt g.F.Fn c.args.transform.now x (Ok y)) c.args.bound.now c.in-Included.value c.in-Ok.new (says_at g.F.Fn c.in-Ok.ensures refl) c.in-Included.is

pub returns-in-Err-clause-err : goal.returns-in-Err-clause-err
returns-in-Err-clause-err g c = failed_included (λ x. FnReturnsAt g.F.Fn c.args.transform.now x (Err c.in-Err.e)) c.args.bound.now c.in-Included.value (says_at g.F.Fn c.in-Err.ensures refl) c.in-Included.is

pub returns-in-Ok-transform-clause-ok : goal.returns-in-Ok-transform-clause-ok
returns-in-Ok-transform-clause-ok g c = mapped_excluded (λ x y. FnReturnsAt g.F.Fn c.args.transform.now x (Ok y)) c.args.bound.now c.in-Excluded.value c.in-Ok-transform.new (says_at g.F.Fn c.in-Ok-transform.ensures refl) c.in-Excluded.is

pub returns-in-Err-transform-clause-err : goal.returns-in-Err-transform-clause-err
returns-in-Err-transform-clause-err g c = failed_excluded (λ x. FnReturnsAt g.F.Fn c.args.transform.now x (Err c.in-Err-transform.e)) c.args.bound.now c.in-Excluded.value (says_at g.F.Fn c.in-Err-transform.ensures refl) c.in-Excluded.is
