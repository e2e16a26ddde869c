use Rattle.std.proofs.Common.{rules}
use Rattle.common_groups.proofs.Calls.{Fills-of}
use Rattle.common_groups.proofs.groups.GroupByIterator.next_group.Goals as goal

pub returns-in_err-key-clause-none : goal.returns-in_err-key-clause-none
returns-in_err-key-clause-none g c =
    let e = c.fill.ensures in
    rw c.from_residual.ensures (c.fill.new.self, Fills-of {left = g.I.Iterator.remaining} e.can_read e.gives e.keys (search rules) e.ready e.stays e.kept)
