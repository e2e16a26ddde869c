use Rattle.std.proofs.Common.{refl}
use Rattle.std.specs.Fn.{FnReturnsAt}
use Rattle.std.proofs.lemmas.Fn.{says_at}
use Rattle.tantivy_common.proofs.BoundKinds.{mapped_included, mapped_excluded}
use Rattle.tantivy_common.proofs.bounds.map_by.Goals as goal

pub returns-in-Included : goal.returns-in-Included
returns-in-Included g c = mapped_included (λ x y. FnReturnsAt g.F.Fn c.args.transform.now x y) c.args.bound.now c.in-Included.value c.transform.result (says_at g.F.Fn c.transform.ensures refl) c.in-Included.is

pub returns-in-Excluded : goal.returns-in-Excluded
returns-in-Excluded g c = mapped_excluded (λ x y. FnReturnsAt g.F.Fn c.args.transform.now x y) c.args.bound.now c.in-Excluded.value c.transform-in-Excluded.result (says_at g.F.Fn c.transform-in-Excluded.ensures refl) c.in-Excluded.is
