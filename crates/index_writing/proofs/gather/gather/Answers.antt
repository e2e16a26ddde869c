use Rattle.std.proofs.Common.{◌≡◌, ◌∙◌, Result, Ok, Err}
use Rattle.std.specs.Prelude.{IfOk}
use Rattle.index_writing.proofs.Gathered.{entries-told}
use Rattle.index_writing.proofs.gather.gather.Goals as goal

both : {X A E : Type 0} (r : Result X E) (f : X → A) (x y : A) → IfOk r (λ found. f found ≡ x) → x ≡ y → IfOk r (λ found. f found ≡ y)
both (Ok found) f x y is same = is ∙ same
both (Err e) f x y is same = tt

pub returns : goal.returns
returns c = both c.entries_of.result (λ postings. postings.items) _ _ c.entries_of.ensures.entries (entries-told c.in_ok-gathered.gathered c.args.docs.now c.entries_of.ensures.ordered c.in_ok-gathered.ensures)
