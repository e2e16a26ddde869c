use Rattle.std.proofs.Common.{refl}
use Rattle.std.specs.Fn.{FnReturnsAt}
use Rattle.std.proofs.lemmas.Fn.{says_at}
use Rattle.tantivy_common.proofs.BoundKinds.{renewed_included, renewed_excluded, kept_included, kept_excluded}
use Rattle.tantivy_common.proofs.bounds.transform_bound_inner.Goals as goal

pub returns-in-NewBound : goal.returns-in-NewBound
returns-in-NewBound g c = renewed_included (λ x y. FnReturnsAt g.F.Fn c.args.transform x y) c.args.bound.now c.in-Included.value c.in-NewBound.new (says_at g.F.Fn c.in-NewBound.ensures refl) c.in-Included.is

pub returns-in-Included : goal.returns-in-Included
returns-in-Included g c = kept_included (λ x y. FnReturnsAt g.F.Fn c.args.transform x y) c.args.bound.now c.in-Included.value c.in-Existing.new (says_at g.F.Fn c.in-Existing.ensures refl) c.in-Included.is

pub returns-in-NewBound-transform : goal.returns-in-NewBound-transform
returns-in-NewBound-transform g c = renewed_excluded (λ x y. FnReturnsAt g.F.Fn c.args.transform x y) c.args.bound.now c.in-Excluded.value c.in-NewBound-transform.new (says_at g.F.Fn c.in-NewBound-transform.ensures refl) c.in-Excluded.is

pub returns-in-Excluded : goal.returns-in-Excluded
returns-in-Excluded g c = kept_excluded (λ x y. FnReturnsAt g.F.Fn c.args.transform x y) c.args.bound.now c.in-Excluded.value c.in-Existing-transform.new (says_at g.F.Fn c.in-Existing-transform.ensures refl) c.in-Excluded.is
